-- Digits with a sign in front of them that write a number are the digits of its magnitude.
use Rattle.std.proofs.Common.{◌≡◌, ℕ, ◌^◌, ◌<◌, ◌≤◌, Bool, true, false, cond, List, ◌∷◌, length, get_or, ℤ, pos, negsuc, unsigned_abs, decimal, ap, ⊎_elim, arith}
use Rattle.std.specs.Fmt.{signed_decimal}
use Rattle.std.proofs.lemmas.Bool.{cases_lt}
use Rattle.std.proofs.lemmas.Fmt.{digits_decimal}
use Rattle.numerals.specs.Digits.{AllDigits}
use Rattle.numerals.specs.Signed.{minus}
use Rattle.numerals.specs.Taking.{signed_bytes}
use Rattle.numerals.specs.declared.digits.SignedDigits.{SignedDigits}
use Rattle.numerals.proofs.Plainness.{numeral_model}
use Rattle.numerals.proofs.Spelling.{more_digits}

-- a number that is written in at most 11 bytes does not begin with a minus
not_minus : (n : ℕ) (digits : List ℕ) → length digits ≤ 10 → minus ∷ digits ≡ decimal n → ⊥
not_minus n digits short e =
    let small : n < 10 ^ 11 = ⊎_elim (λ l. l) (λ l. absurd (omega (arith, ap length e, more_digits 11 n l (omega arith)))) (cases_lt n (10 ^ 11)) in
    let first = digits_decimal numeral_model n (omega arith) 0 (omega (arith, ap length e)) in
    omega (arith, first.0, ap (λ (ds : List ℕ). get_or ds 0 0) e)

-- what is left of a written number without its sign
sign_off : (has_minus : Bool) (digits : List ℕ) (z : ℤ) → AllDigits digits → length digits ≤ 10 → cond has_minus (minus ∷ digits) digits ≡ signed_decimal z → digits ≡ decimal (unsigned_abs z)
sign_off true digits (pos n) all short e = absurd (not_minus n digits short e)
sign_off true digits (negsuc n) all short e = cc
sign_off false digits (pos n) all short e = e
sign_off false digits (negsuc n) all short e =
    let first = all 0 (omega (arith, ap length e)) in
    absurd (omega (arith, first.0, ap (λ (ds : List ℕ). get_or ds 0 0) e))

pub digits_of_magnitude : (d : SignedDigits) (z : ℤ) → signed_bytes d ≡ signed_decimal z → d.digits.bytes.now ≡ decimal (unsigned_abs z)
digits_of_magnitude d z e = sign_off d.minus d.digits.bytes.now z d.digits.plain.digits d.digits.plain.sized.short e
