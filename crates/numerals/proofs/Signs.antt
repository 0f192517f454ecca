-- A number with a minus in front of it is told from one without.
use Rattle.std.proofs.Common.{◌≡◌, ◌≢◌, ℕ, zero, suc, ◌^◌, ◌<◌, List, [], ◌∷◌, pos, neg_ℤ, ◌-ℤ◌, to_z, of_z, w64, decimal, refl, ap, ◌∙◌, subst, arith}
use Rattle.std.specs.Fmt.{signed_decimal}
use Rattle.std.proofs.lemmas.Bool.Decides.{nat_tests}
use Rattle.std.proofs.lemmas.Fmt.{decimal_digit, digits_decimal, first_decimal}
use Rattle.std.proofs.lemmas.Int.{ints}
use Rattle.numerals.specs.Digits.{AllDigits}
use Rattle.numerals.specs.Signed.{minus}
use Rattle.numerals.proofs.Plainness.{numeral_model}
use Rattle.numerals.proofs.Spelling.{under_ten_digits}

-- the digits of a number without a sign do not begin with a minus
pub no_minus : (n : ℕ) (digits : List ℕ) → n < 10 ^ 10 → decimal n ≡ minus ∷ digits → ⊥
no_minus n digits small e =
    let all = subst AllDigits e (digits_decimal numeral_model n (omega arith)) in
    omega (arith, (all 0 (omega arith)).0)

below_zero : (n : ℕ) → decimal n ≢ 48 ∷ [] → signed_decimal (neg_ℤ (pos n)) ≡ minus ∷ decimal n
below_zero zero h = absurd (h (decimal_digit 0 (omega arith)))
below_zero (suc n) h = refl

-- a number but 0, negated as the code does it, is written as its digits with a minus in front of them
pub minus_written : (n : ℕ) → n < 10 ^ 10 → decimal n ≢ 48 ∷ [] → signed_decimal (to_z w64 (of_z w64 (pos 0 -ℤ to_z w64 n))) ≡ minus ∷ decimal n
minus_written n small h =
    let negated : to_z w64 (of_z w64 (pos 0 -ℤ to_z w64 n)) ≡ neg_ℤ (pos n) = omega (arith, ints) in
    ap signed_decimal negated ∙ below_zero n h

-- what `SignedDigits::take` and `SignedDigits::value` are proved by
pub ruleset signs = (nat_tests, under_ten_digits, first_decimal, no_minus, minus_written)
