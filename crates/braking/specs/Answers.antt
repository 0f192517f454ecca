-- What a question is answered: the refusals in their order, else the verdict of the model's meaning.
use Rattle.std.specs.Prelude.{◌≡◌, ◌<◌, ◌≤◌, false, ◌⊎◌, ◌<ℤ◌, Ok, Err, Result, Some, None, Option}
use Rattle.units.specs.declared.limits.TheConstants.{STEEPEST_FALL, STEEPEST_RISE}
use Rattle.braking.specs.Meaning.{Meaning, Question, Verdict, Asked, binds, Binds, weak, strong}
use Rattle.braking.specs.declared.question.Question.{Question as QuestionStruct}
use Rattle.braking.specs.declared.approach.Approach.{Approach}
use Rattle.braking.specs.declared.distances.Distances.{Distances}
use Rattle.braking.specs.declared.refusal.Refusal.{Refusal}
use Rattle.braking.specs.declared.refusal.Refusal.TheVariants.{TooFast, GradeOutOfLimits, NotBinding}

-- The numbers of a question.
abbrev pub question_of : QuestionStruct → Question
question_of q = record { speed = q.speed.tenths; target_speed = q.target_speed.tenths; grade = q.grade.thousandths }

-- When a refusal is due: each is asked only where those before it are not due.
abbrev pub RefusalDue : Meaning → Question → Refusal → Type 0
RefusalDue m q TooFast = (m.top < q.speed) ⊎ (m.top < q.target_speed)
RefusalDue m q GradeOutOfLimits = (q.speed ≤ m.top) × (q.target_speed ≤ m.top) × ((q.grade <ℤ STEEPEST_FALL.thousandths) ⊎ (STEEPEST_RISE.thousandths <ℤ q.grade))
RefusalDue m q NotBinding = Asked m.top q × (binds m q ≡ false)

-- The same question as an approach where nothing is due, else what is due.
abbrev pub Asking : Meaning → Question → Result Approach Refusal → Type 0
Asking m q (Ok a) = Asked m.top q × Binds m q × (a ≡ q)
Asking m q (Err e) = RefusalDue m q e

-- The answer says what the verdict says: it has no distances where that is weak.
abbrev pub Says : Verdict → Option Distances → Type 0
Says weak None = Unit {0}
Says weak (Some d) = ⊥
Says (strong e c) None = ⊥
Says (strong e c) (Some d) = (d.control.millimetres ≡ c.control) × (d.warning.millimetres ≡ c.warning) × (d.nominal.millimetres ≡ c.nominal)

abbrev pub Answered : Meaning → Question → Result (Option Distances) Refusal → Type 0
Answered m q (Ok a) = Asked m.top q × Binds m q × Says (m.verdict q) a
Answered m q (Err e) = RefusalDue m q e
