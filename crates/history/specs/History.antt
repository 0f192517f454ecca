-- What was called and answered, and what stands by it: by the entries alone, with no list of the mission's.
use Rattle.std.specs.Prelude.{◌≡◌, ℕ, ◌+◌, ◌-◌, ◌*◌, ◌<◌, ◌≤◌, ◌⊎◌, List, ◌∷◌, ◌++◌, ℤ, ◌≤ℤ◌, Ok, Err, max}
use Rattle.units.specs.Rounding.{ceiling}
use Rattle.units.specs.declared.limits.TheConstants.{STEEPEST_FALL}
use Rattle.sheet.specs.declared.values.Values.{Values}
use Rattle.braking.specs.Meaning.{Meaning, Question, Binds}
use Rattle.calls.specs.Answers.{Answer}
use Rattle.calls.specs.declared.call.Call.{Call}
use Rattle.calls.specs.declared.call.Call.TheVariants.{Slope, Announce, Withdraw, Ceiling, Lift, Sample, Release}
use Rattle.calls.specs.declared.record.Record.{Record}

-- The calls, over plain numbers: mm, thousandths, tenths of km/h.
abbrev pub slope : (place : ℕ) (grade : ℤ) → Call
slope place grade = Slope (record { millimetres = place }) (record { thousandths = grade })

abbrev pub announce : (number point distance speed : ℕ) → Call
announce number point distance speed = Announce number (record { millimetres = point }) (record { millimetres = distance }) (record { tenths = speed })

abbrev pub withdraw : (number : ℕ) → Call
withdraw number = Withdraw number

abbrev pub ceiling_from : (place speed : ℕ) → Call
ceiling_from place speed = Ceiling (record { millimetres = place }) (record { tenths = speed })

abbrev pub lift : (place : ℕ) → Call
lift place = Lift (record { millimetres = place })

abbrev pub sample : (front speed : ℕ) → Call
sample front speed = Sample (record { millimetres = front }) (record { tenths = speed })

abbrev pub release : Call
release = Release

-- A history: what was called, what it was answered and the phase after it, the oldest entry first.
abbrev pub History : Type 0
History = List Record

-- Accepted: no refusal number.
abbrev pub WasAccepted : Answer → Type 0
WasAccepted (Ok _) = Unit {0}
WasAccepted (Err _) = ⊥

-- The entry is that call, and it was accepted.
abbrev pub Accepts : Record → Call → Type 0
Accepts e c = (e.call ≡ c) × WasAccepted e.answer

-- Somewhere in the history the call was made and accepted.
pub record AcceptedIn (h : History) (c : Call) : Type 0 where
  pub before : History
  pub entry : Record
  pub after : History
  pub split : h ≡ before ++ entry ∷ after
  pub accepts : Accepts entry c

-- From its place on, up to the next one's, the track has the section's grade.
pub record Section : Type 0 where
  pub place : ℕ
  pub grade : ℤ

-- From its place on, the speed is at most the target's.
pub record Target : Type 0 where
  pub number : ℕ
  pub place : ℕ
  pub speed : ℕ

-- From its place on, up to the next one's, the speed is at most the ceiling's.
pub record SpeedCeiling : Type 0 where
  pub place : ℕ
  pub speed : ℕ

-- An accepted call added it, and no call accepted after that took it out.
pub record StandsSince (h : History) (adds : Call → Type 0) (takes_out : Call) : Type 0 where
  pub before : History
  pub entry : Record
  pub after : History
  pub split : h ≡ before ++ entry ∷ after
  pub added : adds entry.call
  pub accepted : WasAccepted entry.answer
  pub kept : AcceptedIn after takes_out → ⊥

-- A section stands if an accepted call added it: no call takes one out.
abbrev pub SectionStands : History → Section → Type 0
SectionStands h x = AcceptedIn h (slope x.place x.grade)

-- Where a target stands that was announced at a distance from a point: the sheet's eps percent of the distance nearer, that cut rounded up.
abbrev pub target_place : (sheet : Values) (point distance : ℕ) → ℕ
target_place sheet point distance = (point + distance) - ceiling (distance * sheet.eps) 100

-- The call announces the target.
pub record Announces (sheet : Values) (t : Target) (c : Call) : Type 0 where
  pub point : ℕ
  pub distance : ℕ
  pub call : c ≡ announce t.number point distance t.speed
  pub placed : t.place ≡ target_place sheet point distance

-- A target stands if an accepted call announced it and no call accepted after that withdrew its number.
abbrev pub TargetStands : (sheet : Values) → History → Target → Type 0
TargetStands sheet h t = StandsSince h (Announces sheet t) (withdraw t.number)

-- The call adds the ceiling.
abbrev pub Adds : SpeedCeiling → Call → Type 0
Adds c x = x ≡ ceiling_from c.place c.speed

-- A ceiling stands if an accepted call added it and no call accepted after that lifted the one at its place.
abbrev pub CeilingStands : History → SpeedCeiling → Type 0
CeilingStands h c = StandsSince h (Adds c) (lift c.place)

-- The grade before the first section: the steepest fall.
abbrev pub steepest : ℤ
steepest = STEEPEST_FALL.thousandths

-- Of those that stand, the one with the greatest place up to p.
pub record LastUpTo {X : Type 0} (Stands : X → Type 0) (place : X → ℕ) (p : ℕ) (x : X) : Type 0 where
  pub stands : Stands x
  pub begun : place x ≤ p
  pub last : (y : X) → Stands y → place y ≤ p → place y ≤ place x

-- The section that holds at place p.
abbrev pub SectionHolds : History → ℕ → Section → Type 0
SectionHolds h p x = LastUpTo (SectionStands h) (λ (y : Section). y.place) p x

-- The ceiling that holds at place p. Where every one that stands begins further on, there is none.
abbrev pub CeilingHolds : History → ℕ → SpeedCeiling → Type 0
CeilingHolds h p c = LastUpTo (CeilingStands h) (λ (d : SpeedCeiling). d.place) p c

-- The grade at place p is g: that of the section that holds there, or the steepest where every one that stands begins further on.
abbrev pub GradeAt : History → ℕ → ℤ → Type 0
GradeAt h p g =
    ((x : Section) × SectionHolds h p x × (x.grade ≡ g)) ⊎ (((y : Section) → SectionStands h y → p < y.place) × (g ≡ steepest))

-- The grade of the stretch from a to b is g: the least of the grades at its places, both ends counted.
pub record GradeOfStretch (h : History) (a b : ℕ) (g : ℤ) : Type 0 where
  pub somewhere : (p : ℕ) × (a ≤ p) × (p ≤ b) × GradeAt h p g
  pub least : (p : ℕ) (k : ℤ) → a ≤ p → p ≤ b → GradeAt h p k → g ≤ℤ k

-- The rear of the train by its front: the sheet's length behind it, at 1,000 mm to the metre, and not below place 0.
abbrev pub rear_of : (sheet : Values) (front : ℕ) → ℕ
rear_of sheet front = front - 1000 * sheet.length

-- The grade ahead, for a place: that of the stretch from the train's rear to the place, or to its front once the place is passed.
abbrev pub GradeAhead : (sheet : Values) → History → (front place : ℕ) → ℤ → Type 0
GradeAhead sheet h front place g = GradeOfStretch h (rear_of sheet front) (max front place) g

-- A target that stands after the history and binds at the sample, with its question there.
pub record Bound (sheet : Values) (m : Meaning) (h : History) (front speed : ℕ) (t : Target) (q : Question) : Type 0 where
  pub stands : TargetStands sheet h t
  pub asks_speed : q.speed ≡ speed
  pub asks_target : q.target_speed ≡ t.speed
  pub asks_grade : GradeAhead sheet h front t.place q.grade
  pub binds : Binds m q
