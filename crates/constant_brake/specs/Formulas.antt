-- What a brake of constant deceleration means, by the numbers that its maker states and the sheet's two times.
use Rattle.std.specs.Prelude.{ℕ, ◌*◌}
use Rattle.units.specs.Fractions.{whole}
use Rattle.braking.specs.Meaning.{Meaning, Question}
use Rattle.stopping.specs.Slopes.{slope_of}
use Rattle.stopping.specs.Meanings.{meaning_by}
use Rattle.stopping.specs.Stops.{Stop}
use Rattle.constant_brake.specs.declared.brake_data.BrakeData.{BrakeData}

-- The deceleration of the brake alone, in units: ten thousand are 1 mm/s².
abbrev pub braking_units : BrakeData → ℕ
braking_units d = 10000 * d.deceleration

-- The reaction time, in ticks: ten million are a tenth of a second.
abbrev pub reaction_ticks : BrakeData → ℕ
reaction_ticks d = 10000000 * d.reaction

-- The deceleration of the brake is a whole number of units, so that nothing of it is rounded.
abbrev pub stop_for : BrakeData → (warning hysteresis : ℕ) → Question → Stop
stop_for d warning hysteresis q = record {
  speed = q.speed;
  target_speed = q.target_speed;
  reaction = reaction_ticks d;
  slope = slope_of q.grade;
  braking = whole (braking_units d);
  rounded = braking_units d;
  warning = warning;
  hysteresis = hysteresis;
}

abbrev pub meaning_of : BrakeData → (warning hysteresis : ℕ) → Meaning
meaning_of d warning hysteresis = meaning_by d.top.tenths (stop_for d warning hysteresis)
