-- What taking bytes as digits answers.
use Rattle.std.specs.Prelude.{◌≡◌, ℕ, cond, List, ◌∷◌, length, ℤ, Some, None, Option}
use Rattle.numerals.specs.Numerals.{Writes, IsDigitCount, IsPlain}
use Rattle.numerals.specs.Signed.{minus, WritesSigned}
use Rattle.numerals.specs.declared.digits.Digits.{Digits}
use Rattle.numerals.specs.declared.digits.SignedDigits.{SignedDigits}

-- Those very bytes, which are so many digits at most, or nothing where the bytes write no number in so many.
abbrev pub DigitsTaken : (max_digits : ℕ) → List ℕ → Option Digits → Type 0
DigitsTaken max_digits bytes (Some d) = (d.bytes.now ≡ bytes) × IsDigitCount max_digits (length bytes)
DigitsTaken max_digits bytes None = (n : ℕ) → Writes max_digits n bytes → ⊥

-- The same in other words: plain digits are taken, and nothing else is.
abbrev pub PlainTaken : (max_digits : ℕ) → List ℕ → Option Digits → Type 0
PlainTaken max_digits bytes (Some d) = IsPlain max_digits bytes
PlainTaken max_digits bytes None = IsPlain max_digits bytes → ⊥

-- The digits with their minus, if there is one.
abbrev pub signed_bytes : SignedDigits → List ℕ
signed_bytes d = cond d.minus (minus ∷ d.digits.bytes.now) d.digits.bytes.now

-- The same of digits with a sign.
abbrev pub SignedTaken : (max_digits : ℕ) → List ℕ → Option SignedDigits → Type 0
SignedTaken max_digits bytes (Some d) = (signed_bytes d ≡ bytes) × IsDigitCount max_digits (length d.digits.bytes.now)
SignedTaken max_digits bytes None = (z : ℤ) → WritesSigned max_digits z bytes → ⊥
