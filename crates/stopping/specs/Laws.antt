-- What the verdict of a stop keeps, and that its formulas hold as they stand.
use Rattle.std.specs.Prelude.{◌≡◌, ℕ, ◌*◌, ◌<◌, ◌≤◌, pos, ◌≤ℤ◌, ◌<ℤ◌}
use Rattle.std.specs.Int.{int_max}
use Rattle.units.specs.Fractions.{whole, ◌≼◌, ◌⊗◌}
use Rattle.braking.specs.Meaning.{Question, Asked, Binds, weak}
use Rattle.braking.specs.Laws.{Strong, Sound}
use Rattle.stopping.specs.Meanings.{meaning_by}
use Rattle.stopping.specs.Stops.{Stop, natural, target_fine_steps, speed_left, speed_reached, speed_reached_up, net, net_exact, net_positive, verdict}

-- The verdict of a stop keeps what every braking model owes.
pub record LawfulStop (s : Stop) : Type 0 where
  pub weak_below : (net_exact s).numerator <ℤ pos (500000 * (net_exact s).denominator) → verdict s ≡ weak
  pub strong_above : pos (500009 * (net_exact s).denominator) ≤ℤ (net_exact s).numerator → Strong (verdict s)
  pub sound : Sound (verdict s)

-- In the formulas of a stop no difference is cut off at 0, and nothing is divided by 0.
pub record Uncut (s : Stop) : Type 0 where
  -- b is the larger of two numbers, of which one may be below 0, and never below the target speed
  pub reached_whole : pos (speed_reached s).numerator ≡ int_max (pos (250000000000 * target_fine_steps s)) (speed_left s)
  pub not_below_target : whole (target_fine_steps s) ≼ speed_reached s
  pub squares : whole (target_fine_steps s * target_fine_steps s) ≼ (speed_reached s ⊗ speed_reached s)
  -- wherever there are distances, d is a number above 0
  pub net_whole : pos 500000 ≤ℤ net s → pos (net_positive s).numerator ≡ (net_exact s).numerator
  pub net_above : pos 500000 ≤ℤ net s → 0 < (net_positive s).numerator
  -- the same of B and D
  pub computed_not_below_target : target_fine_steps s ≤ speed_reached_up s
  pub computed_squares : target_fine_steps s * target_fine_steps s ≤ speed_reached_up s * speed_reached_up s
  pub computed_net_whole : pos 500000 ≤ℤ net s → pos (natural (net s)) ≡ net s
  pub computed_net_above : pos 500000 ≤ℤ net s → 0 < natural (net s)

-- The formulas of every question that can be asked and binds.
abbrev pub StopsUncut : (top : ℕ) → (Question → Stop) → Type 0
StopsUncut top stop = (q : Question) → Asked top q → Binds (meaning_by top stop) q → Uncut (stop q)
