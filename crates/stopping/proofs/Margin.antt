-- The verdict of a stop within limits keeps the laws of a braking model.
use Rattle.std.proofs.Common.{◌≡◌, ℕ, suc, ◌+◌, ◌-◌, ◌*◌, ◌<◌, ◌≤◌, max, true, false, cond, ℤ, pos, negsuc, ◌+ℤ◌, ◌*ℤ◌, ◌≤ℤ◌, ◌<ℤ◌, refl, ap, mul-le-mul, mul-le-mul_right, lt_of_lt_of_le, lt_of_mul-lt-mul_right, mul-pos, one-mul, mul-one, le_of_mul-le-mul_right, arith, lit<, lit≤}
use lib.Signed.{lt_z}
use Rattle.std.proofs.lemmas.Int.{ints}
use Rattle.std.specs.Int.{int_max}
use Rattle.units.specs.Fractions.{Fraction, whole, ratio, ◌⊕◌}
use Rattle.units.specs.Rounding.{ceiling, RoundedUp}
use Rattle.units.proofs.Quotients.{rounded_up}
use Rattle.braking.specs.Meaning.{weak, strong}
use Rattle.braking.specs.Laws.{Within, Strong, Sound}
use Rattle.stopping.specs.Stops.{Stop, Limited, Near, natural, target_fine_steps, speed_reached, speed_reached_up, net, net_exact, net_positive, speed_left, reaction_distance, braking_distance, lead_distance, exact_control, exact_distances, computed_lead, computed_distances, verdict}
use Rattle.stopping.specs.Laws.{LawfulStop, Uncut}
use Rattle.stopping.proofs.Terms.{sum_within, within_more, speed_term, braking_term}
use Rattle.stopping.proofs.Reaching.{reached_not_below, reached_up_bounded}

pub natural_is : (z : ℤ) (n : ℕ) → pos n ≤ℤ z → pos (natural z) ≡ z
natural_is (pos a) n h = refl
natural_is (negsuc a) n h = omega (arith, ints)

larger_whole : (n : ℕ) (z : ℤ) → pos (max n (natural z)) ≡ int_max (pos n) z
larger_whole n (pos a) = grind (arith, ints)
larger_whole n (negsuc a) = grind (arith, ints)

-- the exact net deceleration against the rounded one, by the sign of the slope
net_down : (numerator denominator P D : ℕ) (G : ℤ) → pos D ≡ pos P +ℤ G → P * denominator ≤ numerator → pos (D * denominator) ≤ℤ (pos numerator +ℤ (pos denominator *ℤ G))
net_down numerator denominator P D (pos g) e h = let k : D ≡ P + g = omega (arith, ints) in omega (arith, ints, ap (λ x. x * denominator) k)
net_down numerator denominator P D (negsuc g) e h = let k : P ≡ D + suc g = omega (arith, ints) in omega (arith, ints, ap (λ x. x * denominator) k)

net_close : (numerator denominator P D : ℕ) (G : ℤ) → pos D ≡ pos P +ℤ G → numerator < (P + 9) * denominator → (pos numerator +ℤ (pos denominator *ℤ G)) <ℤ pos ((D + 9) * denominator)
net_close numerator denominator P D (pos g) e h = let k : D ≡ P + g = omega (arith, ints) in omega (arith, ints, ap (λ x. x * denominator) k)
net_close numerator denominator P D (negsuc g) e h = let k : P ≡ D + suc g = omega (arith, ints) in omega (arith, ints, ap (λ x. x * denominator) k)

-- the same where the rounded one may be below zero
net_below : (numerator denominator P : ℕ) (G : ℤ) (n : ℕ) → P * denominator ≤ numerator → (pos numerator +ℤ (pos denominator *ℤ G)) <ℤ pos (n * denominator) → (pos P +ℤ G) <ℤ pos n
net_below numerator denominator P (pos g) n h k =
    let j : P + g < n = lt_of_mul-lt-mul_right denominator (omega (arith, ints)) in omega (arith, ints)
net_below numerator denominator P (negsuc g) n h k =
    let j : P < n + suc g = lt_of_mul-lt-mul_right denominator (omega (arith, ints)) in omega (arith, ints)

net_above : (numerator denominator P : ℕ) (G : ℤ) (n : ℕ) → numerator < (P + 9) * denominator → pos ((n + 9) * denominator) ≤ℤ (pos numerator +ℤ (pos denominator *ℤ G)) → pos n ≤ℤ (pos P +ℤ G)
net_above numerator denominator P (pos g) n h k =
    let j : n + 9 < P + 9 + g = lt_of_mul-lt-mul_right denominator (omega (arith, ints)) in omega (arith, ints)
net_above numerator denominator P (negsuc g) n h k =
    let j : n + 9 + suc g < P + 9 = lt_of_mul-lt-mul_right denominator (omega (arith, ints)) in omega (arith, ints)

-- a product without the 1s that fractions bring
over_is : (n m v k : ℕ) → 625 * (n * n * 1 - v * v * (m * m)) * (1 * k) ≡ 625 * (n * n - v * v * (m * m)) * k
over_is n m v k = simp (mul-one, one-mul)

module _ (s : Stop) (limits : Limited s) (near : Near s.braking s.rounded) where
  down : s.rounded * s.braking.denominator ≤ s.braking.numerator
  down = omega (arith, near.down)

  close : s.braking.numerator < (s.rounded + 9) * s.braking.denominator
  close = omega (arith, near.close)

  weak_below : (net_exact s).numerator <ℤ pos (500000 * (net_exact s).denominator) → verdict s ≡ weak
  unfolding net_exact verdict
  weak_below h =
      let b = net_below s.braking.numerator s.braking.denominator s.rounded s.slope 500000 down h in
      let e : lt_z (net s) (pos 500000) ≡ true = grind (arith, ints) in rw e

  strong_above : pos (500009 * (net_exact s).denominator) ≤ℤ (net_exact s).numerator → Strong (verdict s)
  unfolding net_exact verdict
  strong_above h =
      let a = net_above s.braking.numerator s.braking.denominator s.rounded s.slope 500000 close h in
      let e : lt_z (net s) (pos 500000) ≡ false = grind (arith, ints) in rw e tt

  up : RoundedUp (speed_reached s).numerator (speed_reached s).denominator (speed_reached_up s)
  unfolding speed_reached speed_reached_up
  up = rounded_up (speed_reached s).numerator (speed_reached s).denominator (speed_reached s).positive

  -- the term of a time, k b / m
  time_term : (k m c : ℕ) → 100 * (k + m) ≤ c * m → 0 < m → (e : Fraction) → e.numerator ≡ k * (speed_reached s).numerator → e.denominator ≡ (speed_reached s).denominator * m → Within (ratio c 100) e (ceiling (k * speed_reached_up s) m)
  time_term k m c slack h e is-n is_m = speed_term (speed_reached s) (speed_reached_up s) k m c (ceiling (k * speed_reached_up s) m) up (rounded_up (k * speed_reached_up s) m h) slack e is-n is_m

  reaction_within : Within (ratio 267 100) (reaction_distance s.reaction (speed_reached s)) (ceiling (s.reaction * speed_reached_up s) 3600000000)
  reaction_within = time_term s.reaction 3600000000 267 (omega (arith, limits.brief)) (lit< tt) _ (omega arith) (omega arith)

  lead_within : (t : ℕ) → t ≤ 100 → Within (ratio 128 100) (lead_distance t (speed_reached s)) (computed_lead t (speed_reached_up s))
  lead_within t h = time_term t 360 128 (omega arith) (lit< tt) _ (omega arith) (omega arith)

  slower_up : target_fine_steps s ≤ speed_reached_up s
  slower_up = le_of_mul-le-mul_right {k = (speed_reached s).denominator} (omega (arith, reached_not_below s, up.reaches)) (speed_reached s).positive

  module _ (strong-enough : pos 500000 ≤ℤ net s) where
    D : ℕ
    D = natural (net s)

    is_D : pos D ≡ net s
    unfolding D
    is_D = natural_is (net s) 500000 strong-enough

    DLeast : 500000 ≤ D
    DLeast = omega (arith, ints, is_D, strong-enough)

    d_down : pos (D * s.braking.denominator) ≤ℤ (net_exact s).numerator
    unfolding net_exact
    d_down = net_down s.braking.numerator s.braking.denominator s.rounded D s.slope is_D down

    d_is : pos (net_positive s).numerator ≡ (net_exact s).numerator
    unfolding net_positive
    d_is = natural_is (net_exact s).numerator (D * s.braking.denominator) d_down

    d_not_above : D * (net_positive s).denominator ≤ (net_positive s).numerator
    unfolding net_positive net_exact
    d_not_above = omega (arith, ints, d_down, d_is)

    d_close : (net_positive s).numerator < (D + 9) * (net_positive s).denominator
    unfolding net_positive net_exact
    d_close = omega (arith, ints, d_is, net_close s.braking.numerator s.braking.denominator s.rounded D s.slope is_D close)

    d_positive : 0 < (net_positive s).numerator
    d_positive = omega (arith, d_not_above, mul-le-mul_right (net_positive s).denominator DLeast, (net_positive s).positive)

    braking_within : Within (ratio 7817 100) (braking_distance (speed_reached s) (target_fine_steps s) (net_positive s)) (ceiling (625 * (speed_reached_up s * speed_reached_up s - target_fine_steps s * target_fine_steps s)) (162 * D))
    braking_within =
        braking_term (speed_reached s) (speed_reached_up s) (target_fine_steps s) (net_positive s) D _ up (reached_up_bounded s limits) (reached_not_below s) slower_up
        d_not_above d_close DLeast (rounded_up _ (162 * D) (omega (arith, DLeast))) _
        (over_is (speed_reached s).numerator (speed_reached s).denominator (target_fine_steps s) (net_positive s).denominator)
        (omega (arith, mul-pos (mul-pos (speed_reached s).positive (speed_reached s).positive) d_positive))

    control_within : Within (ratio 267 100 ⊕ ratio 7817 100) (exact_control s) (computed_distances s).control
    unfolding exact_control computed_distances D
    control_within = sum_within reaction_within braking_within

    all_close : Sound (strong (exact_distances s) (computed_distances s))
    unfolding exact_distances computed_distances
    all_close =
        let warning = sum_within control_within (lead_within s.warning limits.warning_brief) in
        let nominal = sum_within warning (lead_within s.hysteresis limits.hysteresis_brief) in
        (within_more (whole 90) (lit≤ tt) control_within, within_more (whole 90) (lit≤ tt) warning, within_more (whole 90) (lit≤ tt) nominal)

  sound : Sound (verdict s)
  unfolding verdict
  sound =
      elim (lt_z (net s) (pos 500000)) as (λ w. lt_z (net s) (pos 500000) ≡ w → Sound (cond w weak (strong (exact_distances s) (computed_distances s)))) [
        | true ↦ λ e. tt
        | false ↦ λ e. all_close (grind (arith, ints))
      ] refl

  pub lawful : LawfulStop s
  lawful = record { weak_below = weak_below; strong_above = strong_above; sound = sound }

  pub uncut : Uncut s
  unfolding speed_reached D
  uncut = record {
    reached_whole = larger_whole (250000000000 * target_fine_steps s) (speed_left s);
    not_below_target = omega (arith, reached_not_below s);
    squares = omega (arith, mul-le-mul (reached_not_below s) (reached_not_below s));
    net_whole = d_is;
    net_above = d_positive;
    computed_not_below_target = slower_up;
    computed_squares = mul-le-mul slower_up slower_up;
    computed_net_whole = λ strong-enough. is_D strong-enough;
    computed_net_above = λ strong-enough. lt_of_lt_of_le (lit< tt) (DLeast strong-enough);
  }
