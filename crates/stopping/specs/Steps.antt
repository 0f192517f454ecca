-- What the steps of a stop are, and those of a question.
use Rattle.std.specs.Prelude.{◌≡◌, ℕ, Ok, Err, Result}
use Rattle.units.specs.Fractions.{Fraction}
use Rattle.braking.specs.Meaning.{Question, Asked, Binds}
use Rattle.braking.specs.Answers.{RefusalDue, Says}
use Rattle.braking.specs.declared.refusal.Refusal.{Refusal}
use Rattle.stopping.specs.Meanings.{meaning_by}
use Rattle.stopping.specs.Stops.{Stop, speed_reached_up, net, verdict}
use Rattle.stopping.specs.declared.stop.Stop.{Stop as StopStruct}
use Rattle.stopping.specs.declared.steps.Steps.{Steps}

-- A stop by its numbers, with an exact deceleration that its rounded one stands for.
abbrev pub stop_of : StopStruct → Fraction → Stop
stop_of s exact = record {
  speed = s.speed.tenths;
  target_speed = s.target_speed.tenths;
  reaction = s.reaction.time.ticks;
  slope = s.slope.units;
  braking = exact;
  rounded = s.braking.units;
  warning = s.lead.warning.tenths;
  hysteresis = s.lead.hysteresis.tenths;
}

-- A struct has the numbers of a stop, whose exact deceleration it cannot hold.
abbrev pub HasNumbersOf : Stop → StopStruct → Type 0
HasNumbersOf stop s = stop_of s stop.braking ≡ stop

-- Each step of a stop.
pub record AreStepsOf (s : Stop) (r : Steps) : Type 0 where
  pub reaction : r.reaction.ticks ≡ s.reaction
  pub slope : r.slope.units ≡ s.slope
  pub reached : r.reached.fine_steps ≡ speed_reached_up s
  pub net : r.net.units ≡ net s
  pub answer : Says (verdict s) r.answer

-- The steps of a question, or why it is turned down, by the top speed and the stop that each question is worked out from.
abbrev pub GivesSteps : (top : ℕ) → (Question → Stop) → Question → Result Steps Refusal → Type 0
GivesSteps top stop q (Ok r) = Asked top q × Binds (meaning_by top stop) q × AreStepsOf (stop q) r
GivesSteps top stop q (Err e) = RefusalDue (meaning_by top stop) q e
