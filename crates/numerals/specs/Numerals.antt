-- Which bytes write a number.
use Rattle.std.specs.Prelude.{◌≡◌, ℕ, ◌<◌, ◌≤◌, List, length, decimal, slice_index}
use Rattle.numerals.specs.Digits.{AllDigits}

-- The bytes are the written digits of n, at most `max_digits` of them and never more than 10.
pub record Writes (max_digits n : ℕ) (bytes : List ℕ) : Type 0 where
  pub written : bytes ≡ decimal n
  pub within : length bytes ≤ max_digits
  pub short : length bytes ≤ 10

-- So many digits are taken: one to `max_digits`, and never more than 10.
pub record IsDigitCount (max_digits count : ℕ) : Type 0 where
  pub some : 1 ≤ count
  pub within : count ≤ max_digits
  pub short : count ≤ 10

-- A '0' stands in front of further bytes.
abbrev pub HasLeadingZero : List ℕ → Type 0
HasLeadingZero bytes = (1 < length bytes) × (slice_index bytes 0 ≡ 48)

-- Plain digits: every byte is one, there are not too many, and a 0 stands in front only where it stands alone.
pub record IsPlain (max_digits : ℕ) (bytes : List ℕ) : Type 0 where
  pub digits : AllDigits bytes
  pub sized : IsDigitCount max_digits (length bytes)
  pub no_lead : HasLeadingZero bytes → ⊥
