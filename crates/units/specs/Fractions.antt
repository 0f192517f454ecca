-- Exact values: fractions, compared and held equal by their cross products.
use Rattle.std.specs.Prelude.{◌≡◌, ℕ, ◌+◌, ◌-◌, ◌*◌, max, ◌<◌, ◌≤◌, ℤ}
use Rattle.std.proofs.Common.{mul-pos, lit<}
use Rattle.std.proofs.Math.Nat.{le-max_left}

infixl 65 ◌⊕◌ ◌⊖◌
infixl 70 ◌⊗◌ ◌⊘◌
infix 50 ◌≼◌ ◌≺◌ ◌≈◌
-- A whole number at or above 0, over a whole number above 0.
pub record Fraction : Type 0 where
  pub numerator : ℕ
  pub denominator : ℕ
  pub positive : 0 < denominator

-- n / m. It is asked only of an m above 0; at 0 it stands for n / 1.
abbrev pub ratio : ℕ → ℕ → Fraction
ratio n m = record { numerator = n; denominator = max 1 m; positive = le-max_left 1 m }

abbrev pub whole : ℕ → Fraction
whole n = record { numerator = n; denominator = 1; positive = lit< tt }

abbrev pub ◌≼◌ : Fraction → Fraction → Type 0
a ≼ b = a.numerator * b.denominator ≤ b.numerator * a.denominator

abbrev pub ◌≺◌ : Fraction → Fraction → Type 0
a ≺ b = a.numerator * b.denominator < b.numerator * a.denominator

abbrev pub ◌≈◌ : Fraction → Fraction → Type 0
a ≈ b = a.numerator * b.denominator ≡ b.numerator * a.denominator

abbrev pub ◌⊕◌ : Fraction → Fraction → Fraction
a ⊕ b = record { numerator = a.numerator * b.denominator + b.numerator * a.denominator; denominator = a.denominator * b.denominator; positive = mul-pos a.positive b.positive }

-- The difference; it is asked only of a b that is at most a, and elsewhere is 0.
abbrev pub ◌⊖◌ : Fraction → Fraction → Fraction
a ⊖ b = record { numerator = a.numerator * b.denominator - b.numerator * a.denominator; denominator = a.denominator * b.denominator; positive = mul-pos a.positive b.positive }

abbrev pub ◌⊗◌ : Fraction → Fraction → Fraction
a ⊗ b = record { numerator = a.numerator * b.numerator; denominator = a.denominator * b.denominator; positive = mul-pos a.positive b.positive }

-- The quotient; it is asked only of a b above 0.
abbrev pub ◌⊘◌ : Fraction → Fraction → Fraction
a ⊘ b = ratio (a.numerator * b.denominator) (a.denominator * b.numerator)

-- A whole number of either sign, over a whole number above 0.
pub record SignedFraction : Type 0 where
  pub numerator : ℤ
  pub denominator : ℕ
  pub positive : 0 < denominator
