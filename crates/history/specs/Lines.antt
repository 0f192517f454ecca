-- The three lines that every history of a mission keeps.
use Rattle.std.specs.Prelude.{◌≡◌, ℕ, ◌+◌, ◌*◌, ◌<◌, ◌≤◌, ◌⊎◌, [], ◌∷◌, ◌++◌, ℤ}
use Rattle.sheet.specs.declared.values.Values.{Values}
use Rattle.units.specs.Fractions.{Fraction, whole, ◌≼◌, ◌≺◌, ◌⊕◌, ◌⊗◌}
use Rattle.braking.specs.Meaning.{Meaning, Question, Verdict, weak, strong}
use Rattle.calls.specs.declared.phase.Phase.{Phase}
use Rattle.calls.specs.declared.phase.Phase.TheVariants.{Free, Emergency}
use Rattle.calls.specs.declared.record.Record.{Record}
use Rattle.history.specs.History.{History, SpeedCeiling, Target, Accepts, Bound, CeilingHolds, CeilingStands, GradeAhead, GradeAt, GradeOfStretch, WasAccepted, sample, release}

-- The distance left is the place less the front, below zero once the place is passed.
-- It is compared by adding the front on the other side, so that no number is below zero.

-- The distance left is at most e.
abbrev pub LeftAtMost : (front place : ℕ) → Fraction → Type 0
LeftAtMost front place e = whole place ≼ (whole front ⊕ e)

-- The distance left, less one fifty-thousandth of itself, is at most e + 90 mm: 49,999 times it is at most 50,000 times that.
abbrev pub LeftNearlyAtMost : (front place : ℕ) → Fraction → Type 0
LeftNearlyAtMost front place e = whole (49999 * place) ≼ (whole (49999 * front) ⊕ whole 50000 ⊗ (e ⊕ whole 90))

-- The distance left is above e.
abbrev pub LeftAbove : (front place : ℕ) → Fraction → Type 0
LeftAbove front place e = (whole front ⊕ e) ≺ whole place

-- The brake must be on: weak, or the exact control distance is at least the distance left.
abbrev pub MustBrake : Verdict → (front place : ℕ) → Type 0
MustBrake weak front place = Unit {0}
MustBrake (strong exact computed) front place = LeftAtMost front place exact.control

-- The brake may come on: weak, or too near.
abbrev pub MayBrake : Verdict → (front place : ℕ) → Type 0
MayBrake weak front place = Unit {0}
MayBrake (strong exact computed) front place = LeftNearlyAtMost front place exact.control

-- The brake may be let go: not weak, and the exact nominal distance is below the distance left.
abbrev pub MayRelease : Verdict → (front place : ℕ) → Type 0
MayRelease weak front place = ⊥
MayRelease (strong exact computed) front place = LeftAbove front place exact.nominal

-- The speed is more than 100 tenths of km/h above the ceiling.
abbrev pub FarAbove : (speed : ℕ) → SpeedCeiling → Type 0
FarAbove speed c = c.speed + 100 < speed

-- The phase after a history: the last entry's, and p if it has none.
abbrev pub last_phase : Phase → History → Phase
last_phase p [] = p
last_phase p (e ∷ h) = last_phase e.phase h

-- The brake is on after the history, that is in emergency; a mission as opened has it off.
abbrev pub OnAfter : History → Type 0
OnAfter h = last_phase Free h ≡ Emergency

-- The brake is on after the entry.
abbrev pub On : Record → Type 0
On e = e.phase ≡ Emergency

-- After an accepted sample above the top speed the brake is on; so it is after one up to the top with a binding target for which it must,
-- and after any that is far above the ceiling at the front.
pub record BrakesInTime (sheet : Values) (m : Meaning) (before : History) (e : Record) : Type 0 where
  pub too_fast : (front speed : ℕ) → Accepts e (sample front speed) → m.top < speed → On e
  pub too_near : (front speed : ℕ) → Accepts e (sample front speed) → speed ≤ m.top →
      (t : Target) (q : Question) → Bound sheet m before front speed t q → MustBrake (m.verdict q) front t.place → On e
  pub too_far_above : (front speed : ℕ) → Accepts e (sample front speed) → (c : SpeedCeiling) → CeilingHolds before front c → FarAbove speed c → On e

-- What allows the brake to come on at a sample: above the top, or a binding target that is weak or too near, or far above the ceiling at the front.
abbrev pub Reason : (sheet : Values) → Meaning → History → (front speed : ℕ) → Type 0
Reason sheet m before front speed =
    (m.top < speed)
    ⊎ ((speed ≤ m.top) × ((t : Target) × (q : Question) × Bound sheet m before front speed t q × MayBrake (m.verdict q) front t.place))
    ⊎ ((c : SpeedCeiling) × CeilingHolds before front c × FarAbove speed c)

-- The brake comes on only in an accepted sample with a reason.
abbrev pub BrakesForAReason : (sheet : Values) → Meaning → History → Record → Type 0
BrakesForAReason sheet m before e = (OnAfter before → ⊥) → On e →
    (front : ℕ) × (speed : ℕ) × Accepts e (sample front speed) × Reason sheet m before front speed

-- The entry is the last accepted one of the history, and this came before it: what came after it was refused.
pub record LastAccepted (h before : History) (entry : Record) : Type 0 where
  pub after : History
  pub split : h ≡ before ++ entry ∷ after
  pub refused : (b : History) (e : Record) (a : History) → after ≡ b ++ e ∷ a → WasAccepted e.answer → ⊥

-- The last accepted call of the history is a sample up to the top speed, not above the ceiling at its front, at which every binding target lets the brake go.
pub record LastSampleJustifies (sheet : Values) (m : Meaning) (h : History) : Type 0 where
  pub before : History
  pub entry : Record
  pub last : LastAccepted h before entry
  pub front : ℕ
  pub speed : ℕ
  pub sampled : Accepts entry (sample front speed)
  pub not_too_fast : speed ≤ m.top
  -- of the targets and ceilings that stood when it was taken
  pub all_let_go : (t : Target) (q : Question) → Bound sheet m before front speed t q → MayRelease (m.verdict q) front t.place
  pub not_above : (c : SpeedCeiling) → CeilingHolds before front c → speed ≤ c.speed

-- The brake goes off only by an accepted release after such a sample.
abbrev pub LetsGoWhenJustified : (sheet : Values) → Meaning → History → Record → Type 0
LetsGoWhenJustified sheet m before e = OnAfter before → (On e → ⊥) → Accepts e release × LastSampleJustifies sheet m before

-- The three lines at one entry, with what came before it.
pub record Lines (sheet : Values) (m : Meaning) (before : History) (e : Record) : Type 0 where
  pub in_time : BrakesInTime sheet m before e
  pub for_a_reason : BrakesForAReason sheet m before e
  pub when_justified : LetsGoWhenJustified sheet m before e

-- A history keeps the three lines at each of its entries.
abbrev pub KeepsTheLines : (sheet : Values) → Meaning → History → Type 0
KeepsTheLines sheet m h = (before : History) (e : Record) (after : History) → h ≡ before ++ e ∷ after → Lines sheet m before e

-- It is so for one grade and for no other.
abbrev pub IsOfOneGrade : (ℤ → Type 0) → Type 0
IsOfOneGrade Is = (g : ℤ) × Is g × ((k : ℤ) → Is k → k ≡ g)

-- Every place has one grade, and every stretch; so has every stretch ahead, from the rear of the sheet's train on, and every binding target has one question.
pub record HasOneGrade (sheet : Values) (h : History) : Type 0 where
  pub at_place : (p : ℕ) → IsOfOneGrade (GradeAt h p)
  pub of_stretch : (a b : ℕ) → a ≤ b → IsOfOneGrade (GradeOfStretch h a b)
  pub ahead : (front place : ℕ) → IsOfOneGrade (GradeAhead sheet h front place)

-- So it is before each entry: the lines speak of something.
abbrev pub GivesOneGrade : (sheet : Values) → History → Type 0
GivesOneGrade sheet h = (before : History) (e : Record) (after : History) → h ≡ before ++ e ∷ after → HasOneGrade sheet before

-- At every place one ceiling holds and no other, or every one that stands begins further on.
abbrev pub HasOneCeilingAtMost : History → Type 0
HasOneCeilingAtMost h = (p : ℕ) →
    ((c : SpeedCeiling) × CeilingHolds h p c × ((d : SpeedCeiling) → CeilingHolds h p d → d ≡ c)) ⊎ ((d : SpeedCeiling) → CeilingStands h d → p < d.place)

-- So it is before each entry: the lines speak of something.
abbrev pub GivesOneCeilingAtMost : History → Type 0
GivesOneCeilingAtMost h = (before : History) (e : Record) (after : History) → h ≡ before ++ e ∷ after → HasOneCeilingAtMost before
