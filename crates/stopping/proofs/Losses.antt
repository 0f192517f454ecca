-- Rounding down after each factor loses little: one factor first, then a list of them.
use Rattle.std.proofs.Common.{ℕ, ◌+◌, ◌*◌, ◌≤◌, List, le_of_lt, mul-le-mul_right, arith}
use native.Mathlib.Nat.{lt_of_mul-lt-mul_left}
use Rattle.units.specs.Fractions.{Fraction, whole, ◌≼◌, ◌≺◌, ◌⊕◌, ◌⊗◌}
use Rattle.units.proofs.Quotients.{rounded_down as quotient-rounded}
use Rattle.stopping.specs.Factors.{product, scale_down, product_down, total_loss, Bounded, none, more, Loses, FactorLoses, FactorsLose}
use Rattle.stopping.specs.Stops.{Near}

-- z is y f rounded down
one_loses : (l x f bound : Fraction) (y z : ℕ) → f ≼ bound → Loses l x y → z * f.denominator ≤ y * f.numerator → y * f.numerator ≤ z * f.denominator + f.denominator → Loses (l ⊗ bound ⊕ whole 1) (x ⊗ f) z
one_loses l x f bound y z small before low high = record {
  at_most = omega (arith, mul-le-mul_right x.denominator low, mul-le-mul_right f.numerator before.at_most);
  no_less = omega (arith, mul-le-mul_right (f.numerator * bound.denominator) before.no_less, mul-le-mul_right (l.denominator * x.denominator * bound.denominator) high, mul-le-mul_right (l.numerator * x.denominator) small);
}

pub factor_loses : FactorLoses
factor_loses l x f bound y small before =
    let down = quotient-rounded (y * f.numerator) f.denominator f.positive in
    one_loses l x f bound y (scale_down y f) small before down.within (le_of_lt down.greatest)

more_lose : {fs bounds : List Fraction} → Bounded fs bounds → (l x : Fraction) (y : ℕ) → Loses l x y → Loses (total_loss l bounds) (product x fs) (product_down y fs)
more_lose none l x y before = before
more_lose (more {f} {bound} small rest) l x y before = more_lose rest (l ⊗ bound ⊕ whole 1) (x ⊗ f) (scale_down y f) (factor_loses l x f bound y small before)

pub factors_lose : FactorsLose
factors_lose start fs bounds h = more_lose h (whole 0) (whole start) start (record { at_most = omega arith; no_less = omega arith })

-- what is at most y and l is below y and m, where l is below m
below_more : (l m x : Fraction) (y : ℕ) → l ≺ m → x ≼ whole y ⊕ l → x ≺ whole y ⊕ m
below_more l m x y h k =
    lt_of_mul-lt-mul_left l.denominator (omega (arith, mul-le-mul_right m.denominator k, mul-le-mul_right x.denominator h, x.positive))

-- where less than 9 is lost, the rounded product is near
pub near : (start : ℕ) (fs bounds : List Fraction) → Bounded fs bounds → total_loss (whole 0) bounds ≺ whole 9 → Near (product (whole start) fs) (product_down start fs)
near start fs bounds h few =
    let all = factors_lose start fs bounds h in
    record { down = all.at_most; close = below_more (total_loss (whole 0) bounds) (whole 9) (product (whole start) fs) (product_down start fs) few all.no_less }
