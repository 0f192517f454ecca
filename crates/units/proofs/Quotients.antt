-- Rounding a quotient up and down does what it is named for.
use mathlib.Core.Path.{◌≡◌}
use mathlib.Core.Logic.{inl, inr}
use Prim.Native.Nat.{ℕ, suc, ◌+◌, ◌/◌, ◌%◌, min, ◌<◌, ◌≤◌}
use native.Mathlib.Nat.{eq-zero-or-pos, div-add-mod', mod-lt, div-le_self, lt_of_mul-lt-mul_right}
use native.Mathlib.Omega.{arith}
use Rattle.units.specs.Rounding.{ceiling, RoundedUp, RoundedDown}

pub rounded_up : (a b : ℕ) → 0 < b → RoundedUp a b (ceiling a b)
rounded_up a b h = elim (eq-zero-or-pos (a % b)) [
  | inl none ↦ let no_more : min 1 (a % b) ≡ 0 = omega arith in record { reaches = rw no_more (omega (arith, div-add-mod' a b)); least = rw no_more (omega (arith, div-add-mod' a b)) }
  | inr some ↦ let one_more : min 1 (a % b) ≡ 1 = omega arith in record { reaches = rw one_more (omega (arith, div-add-mod' a b, mod-lt a h)); least = rw one_more (omega (arith, div-add-mod' a b, mod-lt a h)) }
]

-- a number that is a quotient rounded up is the one that is computed
pub is_ceiling : (a b r : ℕ) → 0 < b → RoundedUp a b r → r ≡ ceiling a b
is_ceiling a b r h up =
    let is = rounded_up a b h in
    let low : r < suc (ceiling a b) = lt_of_mul-lt-mul_right b (omega (arith, up.least, is.reaches)) in
    let high : ceiling a b < suc r = lt_of_mul-lt-mul_right b (omega (arith, up.reaches, is.least)) in
    omega arith

pub ceiling_at_most : (a b : ℕ) → ceiling a b ≤ a + 1
ceiling_at_most a b = omega (arith, div-le_self a b)

pub rounded_down : (a b : ℕ) → 0 < b → RoundedDown a b (a / b)
rounded_down a b h = record { within = omega (arith, div-add-mod' a b); greatest = omega (arith, div-add-mod' a b, mod-lt a h) }
