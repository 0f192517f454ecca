-- Quotients rounded up, rounded down, and rounded down below zero too.
use Rattle.std.specs.Prelude.{ℕ, ◌+◌, ◌*◌, ◌/◌, ◌%◌, min, ◌<◌, ◌≤◌, ℤ, pos, negsuc, ◌+ℤ◌, ◌*ℤ◌, ◌<ℤ◌, ◌≤ℤ◌}

-- The least whole number at or above a / b, for b above 0.
abbrev pub ceiling : ℕ → ℕ → ℕ
ceiling a b = a / b + min 1 (a % b)

-- The greatest whole number at or below z / b, for b above 0; z may be below zero, where negsuc a is -(a + 1).
abbrev pub floor : ℤ → ℕ → ℤ
floor (pos a) b = pos (a / b)
floor (negsuc a) b = negsuc (a / b)

-- r is a / b rounded up: r is at least that, and r less 1 is not.
pub record RoundedUp (a b r : ℕ) : Type 0 where
  pub reaches : a ≤ r * b
  pub least : r * b < a + b

-- r is a / b rounded down: r is at most that, and r + 1 is above it.
pub record RoundedDown (a b r : ℕ) : Type 0 where
  pub within : r * b ≤ a
  pub greatest : a < r * b + b

-- r is z / b rounded down, whatever the sign.
pub record Floored (z : ℤ) (b : ℕ) (r : ℤ) : Type 0 where
  pub within : (pos b *ℤ r) ≤ℤ z
  pub greatest : z <ℤ ((pos b *ℤ r) +ℤ pos b)
