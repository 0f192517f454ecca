-- The meaning in plain words, above its definition by a stop.
use Rattle.std.specs.Prelude.{◌≡◌, ℕ, ◌-◌, ◌*◌, ◌<◌, ◌≤◌, ℤ, pos, ◌+ℤ◌, ◌≤ℤ◌, ◌<ℤ◌}
use Rattle.units.specs.declared.limits.TheConstants.{STEEPEST_FALL}
use Rattle.units.specs.Fractions.{Fraction, ratio, ◌≈◌, ◌⊕◌}
use Rattle.braking.specs.Meaning.{Question, Verdict, weak, strong}
use Rattle.braking.specs.Laws.{Strong}
use Rattle.stopping.specs.Slopes.{slope_of}
use Rattle.constant_brake.specs.Formulas.{meaning_of}
use Rattle.constant_brake.specs.declared.brake_data.BrakeData.{BrakeData}

-- What brake and slope do together, in units.
abbrev pub together : BrakeData → ℤ → ℤ
together d grade = pos (10000 * d.deceleration) +ℤ slope_of grade

-- From V down to V0 on the level, in tenths of km/h.
abbrev pub on_the_level : (V V0 : ℕ) → Question
on_the_level V V0 = record { speed = V; target_speed = V0; grade = pos 0 }

-- t V and (V² - V0²) / 2a, in mm, of t in tenths of a second and a in mm/s².
abbrev pub level_control : BrakeData → (V V0 : ℕ) → Fraction
level_control d V V0 = ratio (25 * (d.reaction * V)) 9 ⊕ ratio (31250 * (V * V - V0 * V0)) (81 * d.deceleration)

abbrev pub ExactControl : Verdict → Fraction → Type 0
ExactControl weak e = ⊥
ExactControl (strong exact computed) e = exact.control ≈ e

pub record Plain (d : BrakeData) (warning hysteresis : ℕ) : Type 0 where
  -- weak exactly under 500,000 units
  pub weak_under : (q : Question) → together d q.grade <ℤ pos 500000 → (meaning_of d warning hysteresis).verdict q ≡ weak
  pub strong_from : (q : Question) → pos 500000 ≤ℤ together d q.grade → Strong ((meaning_of d warning hysteresis).verdict q)
  -- from 428 mm/s² on weak nowhere
  pub never_weak : (q : Question) → 428 ≤ d.deceleration → STEEPEST_FALL.thousandths ≤ℤ q.grade → Strong ((meaning_of d warning hysteresis).verdict q)
  -- on the level the exact control distance is that of a time at the speed and a constant deceleration
  pub level : (V V0 : ℕ) → V0 < V → ExactControl ((meaning_of d warning hysteresis).verdict (on_the_level V V0)) (level_control d V V0)
