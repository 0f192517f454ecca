-- The speed reached: within limits, not below the target, and rounded up where its loss is rounded down.
use Rattle.std.proofs.Common.{◌≡◌, ℕ, suc, ◌+◌, ◌*◌, ◌<◌, ◌≤◌, max, ◌⊎◌, ℤ, pos, negsuc, ◌+ℤ◌, ◌-ℤ◌, ◌*ℤ◌, ◌≤ℤ◌, ◌<ℤ◌, inl, inr, mul-le-mul, arith}
use Rattle.std.proofs.lemmas.Int.{ints}
use Rattle.units.specs.Rounding.{Floored}
use Rattle.units.proofs.Quotients.{rounded_up, is_ceiling}
use Rattle.stopping.specs.Stops.{Stop, Limited, natural, target_fine_steps, speed_reached, speed_reached_up}

pub natural_at_most : (z : ℤ) (n : ℕ) → z ≤ℤ pos n → natural z ≤ n
natural_at_most (pos a) n h = omega (arith, ints)
natural_at_most (negsuc a) n h = omega arith

pub natural_at_least : (z : ℤ) → z ≤ℤ pos (natural z)
natural_at_least (pos a) = omega (arith, ints)
natural_at_least (negsuc a) = omega (arith, ints)

-- what the slope does until the brake acts, times 250,000,000,000
loss_not_below : (T : ℕ) (G : ℤ) → T ≤ 6000000000 → negsuc 4199999 ≤ℤ G → negsuc 226799999999999999 ≤ℤ (pos (9 * T) *ℤ G)
loss_not_below T (pos n) h low = omega (arith, ints)
loss_not_below T (negsuc n) h low =
    let k : suc n ≤ 4200000 = omega (arith, ints) in
    let j : 9 * T ≤ 54000000000 = omega arith in
    let m : (9 * T) * suc n ≤ 54000000000 * 4200000 = mul-le-mul j k in omega (arith, ints)

-- the least number from the exact speed up, where q is x / 250,000,000,000 rounded down
ahead : (v r : ℕ) (x q : ℤ) → Floored x 250000000000 q → (pos (1000 * v) -ℤ q) ≤ℤ pos r → (pos (250000000000 * (1000 * v)) -ℤ x) ≤ℤ pos (r * 250000000000)
ahead v r x (pos n) f h = omega (arith, ints, f.within)
ahead v r x (negsuc n) f h = omega (arith, ints, f.within)

not_far_ahead : (v r : ℕ) (x q : ℤ) → Floored x 250000000000 q → pos r ≡ pos (1000 * v) -ℤ q → pos (r * 250000000000) <ℤ ((pos (250000000000 * (1000 * v)) -ℤ x) +ℤ pos 250000000000)
not_far_ahead v r x (pos n) f h = omega (arith, ints, f.greatest)
not_far_ahead v r x (negsuc n) f h = omega (arith, ints, f.greatest)

module _ (s : Stop) (q : ℤ) (r : ℕ) (f : Floored (pos (9 * s.reaction) *ℤ s.slope) 250000000000 q) (reaches : 1000 * s.target_speed ≤ r) (least : (pos (1000 * s.speed) -ℤ q) ≤ℤ pos r) (either : (pos r ≡ pos (1000 * s.speed) -ℤ q) ⊎ (r ≡ 1000 * s.target_speed)) where
  rest : ℤ
  rest = pos (250000000000 * (1000 * s.speed)) -ℤ (pos (9 * s.reaction) *ℤ s.slope)

  up_to : natural rest ≤ r * 250000000000
  unfolding rest
  up_to = natural_at_most rest (r * 250000000000) (ahead s.speed r (pos (9 * s.reaction) *ℤ s.slope) q f least)

  close : r * 250000000000 < max (250000000000 * target_fine_steps s) (natural rest) + 250000000000
  unfolding rest
  close = elim either [
    | inl is ↦ omega (arith, ints, not_far_ahead s.speed r (pos (9 * s.reaction) *ℤ s.slope) q f is, natural_at_least rest)
    | inr is ↦ omega arith
  ]

  pub is_reached_up : r ≡ speed_reached_up s
  unfolding speed_reached_up speed_reached rest
  is_reached_up = is_ceiling (max (250000000000 * target_fine_steps s) (natural rest)) 250000000000 r (omega arith) (record { reaches = omega (arith, up_to); least = close })

pub reached_not_below : (s : Stop) → 1000 * s.target_speed * (speed_reached s).denominator ≤ (speed_reached s).numerator
unfolding speed_reached
reached_not_below s = omega arith

pub reached_up_bounded : (s : Stop) → Limited s → speed_reached_up s ≤ 5000000
unfolding speed_reached_up speed_reached
reached_up_bounded s h =
    let z : ℤ = pos (250000000000 * (1000 * s.speed)) -ℤ (pos (9 * s.reaction) *ℤ s.slope) in
    let low = loss_not_below s.reaction s.slope h.brief h.not_steeper_down in
    let n : natural z ≤ 1226800000000000000 = natural_at_most z 1226800000000000000 (omega (arith, ints, h.slow)) in
    let up = rounded_up (max (250000000000 * target_fine_steps s) (natural z)) 250000000000 (omega arith) in
    omega (arith, up.least, h.slow, h.target_slow)
