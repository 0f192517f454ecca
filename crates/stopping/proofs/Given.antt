-- The steps of the stop of an approach are those of the question that was asked.
use Rattle.std.proofs.Common.{◌≡◌, ℕ, subst, Ok}
use Rattle.units.specs.Fractions.{Fraction}
use Rattle.braking.specs.Meaning.{Question, Asked, Binds}
use Rattle.stopping.specs.Meanings.{meaning_by}
use Rattle.stopping.specs.Stops.{Stop}
use Rattle.stopping.specs.Steps.{stop_of, HasNumbersOf, AreStepsOf, GivesSteps}
use Rattle.stopping.specs.declared.stop.Stop.{Stop as StopStruct}
use Rattle.stopping.specs.declared.steps.Steps.{Steps}

pub steps_given : (top : ℕ) (stop : Question → Stop) (q approach : Question) (s : StopStruct) (r : Steps) →
    Asked top q × Binds (meaning_by top stop) q × (approach ≡ q) → HasNumbersOf (stop approach) s → ((exact : Fraction) → AreStepsOf (stop_of s exact) r) → GivesSteps top stop q (Ok r)
steps_given top stop q approach s r asked numbers steps =
    let by_stop = subst (λ (t : Stop). AreStepsOf t r) numbers (steps (stop approach).braking) in
    (asked.0, asked.1, subst (λ (p : Question). AreStepsOf (stop p) r) asked.2 by_stop)
