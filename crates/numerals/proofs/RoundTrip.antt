-- The digits of a number are taken, and write no other number.
use Rattle.std.proofs.Common.{◌≡◌, ℕ, ◌-◌, List, ◌++◌, length, take, drop, Some, None, decimal, Option, refl, ap, ◌∙◌, subst, arith}
use Rattle.std.proofs.lemmas.List.{drop_at, take_at, length-take-le}
use Rattle.std.proofs.lemmas.Fmt.{length-decimal-le}
use Rattle.numerals.specs.declared.digits.Digits.{Digits}
use Rattle.numerals.specs.Numerals.{Writes}
use Rattle.numerals.specs.Taking.{DigitsTaken}
use Rattle.numerals.specs.Writing.{DigitsStand}
use Rattle.numerals.specs.Laws.{IsReadable, TakesOwnDigits, TakenAs, WrittenIsRead}
use Rattle.numerals.proofs.Spelling.{one_number}

-- the digits of a number that is small enough write it
writes : (max_digits n : ℕ) → IsReadable max_digits n → Writes max_digits n (decimal n)
writes max_digits n k = record {
  written = refl;
  within = length-decimal-le max_digits n (omega (arith, k.one)) k.within (omega (arith, k.short));
  short = length-decimal-le 10 n (omega arith) k.short (omega (arith, k.short));
}

pub own_digits : TakesOwnDigits
unfolding TakesOwnDigits
own_digits max_digits n (Some d) k h = refl
own_digits max_digits n None k h = absurd (h n (writes max_digits n k))

-- the digits are what lies between `at` and the end
between : (before after : List ℕ) (at n end : ℕ) → DigitsStand before at n after end → take (end - at) (drop at after) ≡ decimal n
between before after at n end w =
    let front : length (take at before) ≡ at = length-take-le at before (omega (arith, w.ends, w.fits)) in
    let count : length (decimal n) ≡ end - at = omega (arith, w.ends) in
    ap (λ (bytes : List ℕ). take (end - at) (drop at bytes)) w.bytes
    ∙ (ap (take (end - at)) (drop_at (take at before) (decimal n ++ drop end before) at front) ∙ take_at (decimal n) (drop end before) (end - at) count)

-- what is taken from the digits of a number writes no other
taken_as : (max_digits n : ℕ) (r : Option Digits) → IsReadable max_digits n → DigitsTaken max_digits (decimal n) r → TakenAs n r
taken_as max_digits n (Some d) k h = λ m e. one_number m n d.bytes.now d.plain.sized.short e h.0
taken_as max_digits n None k h = h n (writes max_digits n k)

pub written_is_read : WrittenIsRead
unfolding WrittenIsRead
written_is_read before after at n end max_digits r k w h =
    let taken = subst (λ (bytes : List ℕ). DigitsTaken max_digits bytes r) (between before after at n end w) h in
    taken_as max_digits n r k taken
