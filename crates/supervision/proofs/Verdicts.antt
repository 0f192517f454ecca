-- The zone of a target by what a model answers to its question.
use Rattle.std.proofs.Common.{◌≡◌, ℕ, ◌≤◌, max, ℤ, true, false, cond, List, Ok, Err, Some, None, Result, Option, subst, arith}
use Rattle.std.proofs.lemmas.Bool.{le-ltb}
use Rattle.braking.specs.Answers.{Answered, Says}
use Rattle.braking.specs.Meaning.{Meaning, Question, Verdict, binds, weak, strong}
use Rattle.braking.specs.declared.distances.Distances.{Distances}
use Rattle.braking.specs.declared.refusal.Refusal.{Refusal}
use Rattle.braking.specs.declared.refusal.Refusal.TheVariants.{TooFast, GradeOutOfLimits, NotBinding}
use Rattle.calls.specs.declared.zone.Zone.TheVariants.{Clear}
use Rattle.history.specs.History.{Section, Target}
use Rattle.history.specs.State.{is_unfit, valid_sections}
use Rattle.history.specs.Zones.{least_grade, question, target_zone, zone_of}
use Rattle.history.proofs.Grades.{least_fit}
use Rattle.history.proofs.Tracked.{valid_fit}
use Rattle.supervision.specs.Judging.{judged_zone}

-- what a verdict says is judged as the verdict
said : (v : Verdict) (a : Option Distances) (front place : ℕ) → Says v a → judged_zone (Ok a) front place ≡ zone_of v front place
said weak None front place s = grind arith
said weak (Some d) front place s = absurd s
said (strong e c) None front place s = absurd s
said (strong e c) (Some d) front place s = simp (s.0, s.1, s.2)

-- A train up to the top speed, on a grade within limits, is judged by the verdict where the target binds, and is clear of it where not.
judged : (m : Meaning) (q : Question) (r : Result (Option Distances) Refusal) (front place : ℕ) → Answered m q r → q.speed ≤ m.top → is_unfit q.grade ≡ false →
    judged_zone r front place ≡ cond (binds m q) (zone_of (m.verdict q) front place) Clear
judged m q (Ok a) front place w slow fit = rw w.1 (said (m.verdict q) a front place w.2)
judged m q (Err TooFast) front place w slow fit =
    let free : binds m q ≡ false = le-ltb q.target_speed q.speed (grind arith) in
    rw free
judged m q (Err GradeOutOfLimits) front place w slow fit = absurd (grind arith)
judged m q (Err NotBinding) front place w slow fit = rw w.1

-- So the zone of a target is what its question is judged as.
pub judged_target : (m : Meaning) (xs : List Section) (rear front speed : ℕ) (t : Target) (grade : ℤ) (r : Result (Option Distances) Refusal) → grade ≡ least_grade xs rear (max front t.place) →
    Answered m (record { speed = speed; target_speed = t.speed; grade = grade }) r → speed ≤ m.top → valid_sections xs ≡ true → judged_zone r front t.place ≡ target_zone m xs rear front speed t
judged_target m xs rear front speed t grade r e w slow v =
    judged m (question xs rear front speed t) r front t.place
    (subst (λ (k : ℤ). Answered m (record { speed = speed; target_speed = t.speed; grade = k }) r) e w) slow
    (least_fit xs rear (max front t.place) (valid_fit xs v))
