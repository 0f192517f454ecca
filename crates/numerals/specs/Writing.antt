-- What writing a number into bytes answers, and what the bytes are then.
use Rattle.std.specs.Prelude.{◌≡◌, ℕ, ◌+◌, ◌<◌, ◌≤◌, List, ◌++◌, length, take, drop, Some, None, decimal, Option}

-- Where `count` bytes from `at` on end, if they end within the first `room` ones.
abbrev pub EndsWithin : ℕ → ℕ → ℕ → Option ℕ → Type 0
EndsWithin room at count (Some end) = (end ≡ at + count) × (end ≤ room)
EndsWithin room at count None = room < at + count

-- The digits of n stand from `at` to `end`, and all other bytes are as before.
pub record DigitsStand (before : List ℕ) (at n : ℕ) (after : List ℕ) (end : ℕ) : Type 0 where
  pub ends : end ≡ at + length (decimal n)
  pub fits : end ≤ length before
  pub bytes : after ≡ take at before ++ (decimal n ++ drop end before)

-- The digits of n, from `at` on, would end beyond the bytes, and nothing is altered.
pub record HasNoRoom (before : List ℕ) (at n : ℕ) (after : List ℕ) : Type 0 where
  pub beyond : length before < at + length (decimal n)
  pub same : after ≡ before

-- What writing n from `at` on answers.
abbrev pub NumberWritten : List ℕ → ℕ → ℕ → List ℕ → Option ℕ → Type 0
NumberWritten before at n after (Some end) = DigitsStand before at n after end
NumberWritten before at n after None = HasNoRoom before at n after
