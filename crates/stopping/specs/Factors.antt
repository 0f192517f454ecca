-- A whole number times factors, one after the other: exactly, and rounded down after each.
use Rattle.std.specs.Prelude.{ℕ, ◌*◌, ◌/◌, List, [], ◌∷◌}
use Rattle.units.specs.Fractions.{Fraction, whole, ◌≼◌, ◌⊕◌, ◌⊗◌}

-- The exact product of x and all the factors.
abbrev pub product : Fraction → List Fraction → Fraction
product x [] = x
product x (f ∷ fs) = product (x ⊗ f) fs

-- One product rounded down.
abbrev pub scale_down : ℕ → Fraction → ℕ
scale_down y f = y * f.numerator / f.denominator

-- The product, rounded down after each factor.
abbrev pub product_down : ℕ → List Fraction → ℕ
product_down y [] = y
product_down y (f ∷ fs) = product_down (scale_down y f) fs

-- y is at most x, and x is at most y + l.
pub record Loses (l x : Fraction) (y : ℕ) : Type 0 where
  pub at_most : whole y ≼ x
  pub no_less : x ≼ whole y ⊕ l

-- What is lost at the most, where l was lost before and each factor is at most its bound: the bound multiplies it, and rounding down loses 1 more.
abbrev pub total_loss : Fraction → List Fraction → Fraction
total_loss l [] = l
total_loss l (bound ∷ bounds) = total_loss (l ⊗ bound ⊕ whole 1) bounds

-- Each factor is at most its bound.
pub data Bounded : List Fraction → List Fraction → Type 0 where
  none : Bounded [] []
  more : {f bound : Fraction} {fs bounds : List Fraction} → f ≼ bound → Bounded fs bounds → Bounded (f ∷ fs) (bound ∷ bounds)

-- One more factor f of at most bound: what was lost before is multiplied by at most the bound, and rounding down loses 1 more.
abbrev pub FactorLoses : Type 0
FactorLoses = (l x f bound : Fraction) (y : ℕ) → f ≼ bound → Loses l x y → Loses (l ⊗ bound ⊕ whole 1) (x ⊗ f) (scale_down y f)

-- The rule for all factors together, from any start.
abbrev pub FactorsLose : Type 0
FactorsLose = (start : ℕ) (fs bounds : List Fraction) → Bounded fs bounds → Loses (total_loss (whole 0) bounds) (product (whole start) fs) (product_down start fs)
