-- Worked figures of the two models, each worked out apart from this repository.
use Rattle.std.specs.Prelude.{◌≡◌, ℕ, ℤ, pos, negsuc}
use Rattle.units.specs.Fractions.{Fraction, ratio, ◌≈◌}
use Rattle.braking.specs.Meaning.{Question, Verdict, weak, strong}
use Rattle.sheet.specs.declared.values.Values.{Values}
use Rattle.stopping.specs.Slopes.{slope_of}
use Rattle.stopping.specs.Stops.{speed_reached_up}
use Rattle.models.specs.Formulas.{reaction_time}
use Rattle.models.specs.Meanings.{stop_for, meaning_of}
use Rattle.models.specs.Vl.{vl}
use Rattle.figures.specs.Sheets.{sheet_a, weak_sheet, etcs_sheet}

-- From 100 km/h to a stop.
abbrev pub to_stop : ℤ → Question
to_stop grade = record { speed = 1000; target_speed = 0; grade = grade }

-- What the model that a sheet names says of a question.
abbrev pub verdict_on : Values → Question → Verdict
verdict_on v q = (meaning_of v.model v).verdict q

abbrev pub Control : Verdict → ℕ → Type 0
Control weak c = ⊥
Control (strong exact computed) c = computed.control ≡ c

abbrev pub Computed : Verdict → (c w n : ℕ) → Type 0
Computed weak c w n = ⊥
Computed (strong exact computed) c w n = (computed.control ≡ c) × (computed.warning ≡ w) × (computed.nominal ≡ n)

abbrev pub Exact : Verdict → (c w n : Fraction) → Type 0
Exact weak c w n = ⊥
Exact (strong exact computed) c w n = (exact.control ≈ c) × (exact.warning ≈ w) × (exact.nominal ≈ n)

pub record Stated : Type 0 where
  -- VL
  pub fading_at_45 : vl 45 ≡ 873
  pub fading_at_100 : vl 100 ≡ 1243
  -- G
  pub slope_at_1 : slope_of (pos 1) ≡ pos 88290
  pub slope_at_minus_20 : slope_of (negsuc 19) ≡ negsuc 1961999
  pub slope_at_minus_21 : slope_of (negsuc 20) ≡ negsuc 2266109
  -- T on sheet A for a target of 30 km/h, just within and just outside the reach of the target
  pub time_at_599 : reaction_time sheet_a.model sheet_a 599 300 ≡ 70000000
  pub time_at_600 : reaction_time sheet_a.model sheet_a 600 300 ≡ 1053750000
  -- sheet A from 100 km/h to a stop, on the level
  pub level : Computed (verdict_on sheet_a (to_stop (pos 0))) 787963 843519 926853
  pub level_exactly : Exact (verdict_on sheet_a (to_stop (pos 0))) (ratio 49719603125 63099) (ratio 53225103125 63099) (ratio 58483353125 63099)
  -- the same on a fall of 21 thousandths
  pub falling_reached : speed_reached_up (stop_for sheet_a.model sheet_a (to_stop (negsuc 20))) ≡ 1085965
  pub falling_control : Control (verdict_on sheet_a (to_stop (negsuc 20))) 1141539
  -- a brake that is too weak for the steepest fall
  pub too_weak : verdict_on weak_sheet (to_stop (negsuc 34)) ≡ weak
  -- the other model
  pub etcs_control : Control (verdict_on etcs_sheet (to_stop (pos 0))) 1251887
