-- Bytes that are digits.
use Rattle.std.specs.Prelude.{ℕ, ◌<◌, ◌≤◌, List, length, slice_index}

-- The byte is a digit, '0' to '9'.
abbrev pub IsDigit : ℕ → Type 0
IsDigit byte = (48 ≤ byte) × (byte ≤ 57)

-- Every byte is a digit.
abbrev pub AllDigits : List ℕ → Type 0
AllDigits bytes = (i : ℕ) → i < length bytes → IsDigit (slice_index bytes i)
