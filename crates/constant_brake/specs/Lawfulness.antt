-- The brake keeps the laws of a braking model, over all numbers that a maker may state.
use Rattle.std.specs.Prelude.{ℕ, ◌≤◌}
use Rattle.std.proofs.Common.{le_trans, arith}
use Rattle.units.specs.declared.limits.TheConstants.{MAX_SPEED}
use Rattle.units.specs.Fractions.{whole}
use Rattle.braking.specs.Meaning.{Question, Asked, Binds}
use Rattle.braking.specs.Laws.{Lawful}
use Rattle.stopping.specs.Laws.{StopsUncut}
use Rattle.stopping.specs.Stops.{Limited, Near}
use Rattle.stopping.proofs.Gradients.{slope_not_below, slope_not_above}
use Rattle.stopping.proofs.Lawfully.{lawful_by, uncut_by}
use Rattle.constant_brake.specs.Formulas.{braking_units, stop_for, meaning_of}
use Rattle.constant_brake.specs.declared.brake_data.BrakeData.{BrakeData}

-- a whole number of units is near itself
whole_near : (n : ℕ) → Near (whole n) n
whole_near n = record { down = omega arith; close = omega arith }

module _ (d : BrakeData) (warning hysteresis : ℕ) (brief : d.reaction ≤ 200) (slow : d.top.tenths ≤ MAX_SPEED.tenths) (warning_brief : warning ≤ 100) (hysteresis_brief : hysteresis ≤ 100) where
  stop_limited : (q : Question) → Asked d.top.tenths q → Binds (meaning_of d warning hysteresis) q → Limited (stop_for d warning hysteresis q)
  stop_limited q asked binds = record {
    slow = le_trans asked.slow slow;
    target_slow = le_trans asked.target_slow slow;
    brief = omega (arith, brief);
    not_steeper_down = slope_not_below q.grade asked.not_below;
    not_steeper_up = slope_not_above q.grade asked.not_above;
    warning_brief = warning_brief;
    hysteresis_brief = hysteresis_brief;
  }

  pub brake_lawful : Lawful (meaning_of d warning hysteresis)
  brake_lawful = lawful_by d.top.tenths (stop_for d warning hysteresis) slow stop_limited (λ q asked binds. whole_near (braking_units d))

  pub stops_uncut : StopsUncut d.top.tenths (stop_for d warning hysteresis)
  stops_uncut = uncut_by d.top.tenths (stop_for d warning hysteresis) slow stop_limited (λ q asked binds. whole_near (braking_units d))
