use Rattle.std.proofs.Common.{◌≡◌, ℕ, ◌*◌, ◌/◌, ◌<◌, ◌≤◌, mul-le-mul_left, le_of_mul-le-mul_right, arith}
use Rattle.units.proofs.Quotients.{rounded_down}
use Rattle.models.proofs.factor.Factor.scale.Goals as goal

-- a quotient rounded down is at most twice x, where its factor is
at_most_twice : (x n m r : ℕ) → 0 < m → n ≤ 2 * m → r ≡ x * n / m → r ≤ 2 * x
at_most_twice x n m r above twice is =
    rw is (le_of_mul-le-mul_right {k = m} (omega (arith, (rounded_down (x * n) m above).within, mul-le-mul_left x twice)) above)

pub returns : goal.returns
returns c =
    let self = c.args.self in
    let value = c.quotient_down-units.ensures.value in
    record { value = value; bounded = at_most_twice c.args.deceleration.units self.numerator self.denominator c.quotient_down-units.result self.positive self.at_most_two value }
