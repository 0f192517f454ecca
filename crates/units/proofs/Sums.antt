-- A sum of fractions is at least each of its parts.
use Rattle.std.proofs.Common.{arith}
use Rattle.units.specs.Fractions.{Fraction, ◌≼◌, ◌⊕◌}

pub sum_at_least : (a b : Fraction) → a ≼ (a ⊕ b)
sum_at_least a b = omega arith
