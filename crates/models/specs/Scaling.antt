-- A factor of the code has the value of a fraction.
use Rattle.std.specs.Prelude.{◌≡◌}
use Rattle.units.specs.Fractions.{Fraction}
use Rattle.models.specs.declared.factor.Factor.{Factor}

pub record HasValue (f : Fraction) (r : Factor) : Type 0 where
  pub numerator : r.numerator ≡ f.numerator
  pub denominator : r.denominator ≡ f.denominator
