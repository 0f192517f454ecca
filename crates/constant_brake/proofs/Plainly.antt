-- The meaning of the brake in plain words.
use Rattle.std.proofs.Common.{◌≡◌, ℕ, ◌+◌, ◌-◌, ◌*◌, ◌<◌, ◌≤◌, true, false, ℤ, pos, negsuc, ◌+ℤ◌, ◌-ℤ◌, ◌≤ℤ◌, ◌<ℤ◌, refl, ap, le_of_lt, mul-le-mul, arith}
use lib.Signed.{lt_z}
use Rattle.std.proofs.lemmas.Int.{ints}
use Rattle.units.specs.Fractions.{Fraction, ratio, ◌≈◌, ◌⊕◌}
use Rattle.braking.specs.Meaning.{Question, weak}
use Rattle.braking.specs.Laws.{Strong}
use Rattle.stopping.specs.Slopes.{slope_of}
use Rattle.stopping.proofs.Gradients.{slope_least}
use Rattle.stopping.specs.Stops.{Stop, natural, speed_reached, net_exact, net_positive, reaction_distance, braking_distance, exact_control, exact_distances, verdict}
use Rattle.constant_brake.specs.Formulas.{stop_for, meaning_of}
use Rattle.constant_brake.specs.Plain.{Plain, ExactControl, together, on_the_level, level_control}
use Rattle.constant_brake.specs.declared.brake_data.BrakeData.{BrakeData}

enough : (a : ℕ) (G : ℤ) → 428 ≤ a → negsuc 3776849 ≤ℤ G → pos 500000 ≤ℤ (pos (10000 * a) +ℤ G)
enough a (pos g) h k = omega (arith, ints)
enough a (negsuc g) h k = omega (arith, ints)

natural_of : (n : ℕ) (z : ℤ) → z ≡ pos n → natural z ≡ n
natural_of n z e = rw e refl

sum_same : (a b x y : Fraction) → a ≈ x → b ≈ y → (a ⊕ b) ≈ (x ⊕ y)
sum_same a b x y e f = omega (arith, ap (λ (n : ℕ). n * (b.denominator * y.denominator)) e, ap (λ (n : ℕ). n * (a.denominator * x.denominator)) f)

-- a speed of V in fine steps, over 250,000,000,000
run_same : (b : Fraction) (t V : ℕ) → b.numerator ≡ 250000000000000 * V → b.denominator ≡ 250000000000 → reaction_distance (10000000 * t) b ≈ ratio (25 * (t * V)) 9
run_same b t V is-numerator is-denominator = rw (is-numerator, is-denominator) (omega arith)

product_same : (f m n a x : ℕ) → f ≡ 62500000000000000000000000000 * x → m ≡ 81 * a → n ≡ 101250000000000000000000000000 * a → 625 * f * (1 * 1) * m ≡ 31250 * x * n
product_same f m n a x is_f is_m is-n = rw (is_f, is_m, is-n) (omega arith)

braked_same : (b d : Fraction) (V V0 a x : ℕ) → b.numerator ≡ 250000000000000 * V → b.denominator ≡ 250000000000 → d.numerator ≡ 10000 * a → d.denominator ≡ 1 → 1 ≤ a → V * V ≡ V0 * V0 + x →
    braking_distance b (1000 * V0) d ≈ ratio (31250 * x) (81 * a)
braked_same b d V V0 a x is-numerator is-denominator is-d is_one some is_x =
    rw (is-numerator, is-denominator, is-d, is_one) (product_same _ _ _ a x (omega (arith, is_x)) (omega (arith, some)) (omega (arith, some)))

module _ (d : BrakeData) (warning hysteresis : ℕ) (least : 300 ≤ d.deceleration) where
  weak_under : (q : Question) → together d q.grade <ℤ pos 500000 → (meaning_of d warning hysteresis).verdict q ≡ weak
  unfolding verdict
  weak_under q h = let e : lt_z (together d q.grade) (pos 500000) ≡ true = grind (arith, ints) in rw e

  strong_from : (q : Question) → pos 500000 ≤ℤ together d q.grade → Strong ((meaning_of d warning hysteresis).verdict q)
  unfolding verdict
  strong_from q h = let e : lt_z (together d q.grade) (pos 500000) ≡ false = grind (arith, ints) in rw e tt

  level_same : (V V0 : ℕ) → V0 < V → exact_control (stop_for d warning hysteresis (on_the_level V V0)) ≈ level_control d V V0
  unfolding exact_control speed_reached net_positive net_exact
  level_same V V0 lower =
      let s : Stop = stop_for d warning hysteresis (on_the_level V V0) in
      let is-natural = natural_of (250000000000000 * V) (pos (250000000000 * (1000 * V)) -ℤ pos (9 * (10000000 * d.reaction) * 0)) (omega (arith, ints)) in
      let is-reached : (speed_reached s).numerator ≡ 250000000000000 * V = omega (arith, is-natural, lower) in
      let is-net : (net_positive s).numerator ≡ 10000 * d.deceleration = omega arith in
      let squares : V0 * V0 ≤ V * V = mul-le-mul (le_of_lt lower) (le_of_lt lower) in
      sum_same (reaction_distance (10000000 * d.reaction) (speed_reached s)) (braking_distance (speed_reached s) (1000 * V0) (net_positive s))
      (ratio (25 * (d.reaction * V)) 9) (ratio (31250 * (V * V - V0 * V0)) (81 * d.deceleration))
      (run_same (speed_reached s) d.reaction V is-reached refl)
      (braked_same (speed_reached s) (net_positive s) V V0 d.deceleration (V * V - V0 * V0) is-reached refl is-net refl (omega (arith, least)) (omega (arith, squares)))

  level : (V V0 : ℕ) → V0 < V → ExactControl ((meaning_of d warning hysteresis).verdict (on_the_level V V0)) (level_control d V V0)
  unfolding verdict exact_distances
  level V V0 lower = let e : lt_z (together d (pos 0)) (pos 500000) ≡ false = grind (arith, ints) in rw e (level_same V V0 lower)

  pub plain : Plain d warning hysteresis
  plain = record {
    weak_under = weak_under;
    strong_from = strong_from;
    never_weak = λ q h fall. strong_from q (enough d.deceleration (slope_of q.grade) h (slope_least q.grade fall));
    level = level;
  }
