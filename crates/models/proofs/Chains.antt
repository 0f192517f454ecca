-- A factor of the code scales as its fraction does.
use Rattle.std.proofs.Common.{◌≡◌, ℕ, ◌*◌, ◌/◌, ap, ◌∙◌, mul-one, div-one}
use Rattle.units.specs.Fractions.{Fraction, whole}
use Rattle.stopping.specs.Factors.{scale_down}
use Rattle.models.specs.Scaling.{HasValue}
use Rattle.models.specs.declared.factor.Factor.{Factor}

pub scaled_is : (f : Fraction) (r : Factor) (x y z : ℕ) → HasValue f r → y ≡ x → z ≡ y * r.numerator / r.denominator → z ≡ scale_down x f
scaled_is f r x y z is same value =
    let numerator = is.numerator in
    let denominator = is.denominator in
    cc

-- a factor of 1 changes nothing
pub scaled_one : (x : ℕ) → scale_down x (whole 1) ≡ x
scaled_one x = rw (mul-one, div-one)

-- so of five factors only two count where the first, the third and the fourth are 1
pub two_of_five : (x : ℕ) (f g : Fraction) → scale_down (scale_down (scale_down (scale_down (scale_down x (whole 1)) f) (whole 1)) (whole 1)) g ≡ scale_down (scale_down x f) g
two_of_five x f g =
    let after-f : ℕ = scale_down (scale_down x (whole 1)) f in
    ap (λ (y : ℕ). scale_down y g) (scaled_one (scale_down after-f (whole 1)) ∙ (scaled_one after-f ∙ ap (λ (y : ℕ). scale_down y f) (scaled_one x)))
