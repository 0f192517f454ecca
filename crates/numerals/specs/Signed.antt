-- Numbers of either sign, as bytes.
use Rattle.std.specs.Prelude.{◌≡◌, ℕ, ◌≤◌, List, length, ℤ, decimal, unsigned_abs}
use Rattle.std.specs.Fmt.{signed_decimal}

-- The byte of a minus.
abbrev pub minus : ℕ
minus = 45

-- The bytes write a whole number of either sign: its digits, at most `max_digits` and never more than 10, and a minus in front of one below zero.
pub record WritesSigned (max_digits : ℕ) (z : ℤ) (bytes : List ℕ) : Type 0 where
  pub written : bytes ≡ signed_decimal z
  pub within : length (decimal (unsigned_abs z)) ≤ max_digits
  pub short : length (decimal (unsigned_abs z)) ≤ 10
