-- The mission's step: what each call asks, answers and does.
use Rattle.std.specs.Prelude.{ℕ, ◌+◌, ◌-◌, Bool, false, cond, not, ◌||◌, List, [], ◌∷◌, ◌++◌, Some, None, Ok, Err, Option, ◌==◌, nat_lt}
use Rattle.place_list.specs.Insertion.{placed_in}
use Rattle.units.specs.declared.limits.TheConstants.{MAX_SPEED, MAX_PLACE}
use Rattle.sheet.specs.declared.values.Values.{Values}
use Rattle.braking.specs.Meaning.{Meaning}
use Rattle.calls.specs.Answers.{Answer}
use Rattle.calls.specs.declared.call.Call.{Call}
use Rattle.calls.specs.declared.call.Call.TheVariants.{Slope, Announce, Withdraw, Ceiling, Lift, Sample, Release}
use Rattle.calls.specs.declared.phase.Phase.{Phase}
use Rattle.calls.specs.declared.phase.Phase.TheVariants.{Free, Warning, Emergency}
use Rattle.calls.specs.declared.refusal.Refusal.{Refusal}
use Rattle.calls.specs.declared.refusal.Refusal.TheVariants.{PlaceOutOfLimits, TooFast, GradeOutOfLimits, Conflict, Full, NotReleasable}
use Rattle.calls.specs.declared.zone.Zone.{Zone}
use Rattle.calls.specs.declared.zone.Zone.TheVariants as zones
use Rattle.history.specs.History.{Section, SpeedCeiling, Target, target_place}
use Rattle.history.specs.State.{Listed, Track, State, begins_at, ceiling_begins_at, has_number, is_unfit}
use Rattle.history.specs.Zones.{is_clear, zone}

-- The furthest place, in mm, and the greatest speed that a sample may have, in tenths of km/h.
abbrev pub max_place : ℕ
max_place = MAX_PLACE.millimetres

abbrev pub max_speed : ℕ
max_speed = MAX_SPEED.tenths

-- A ground for refusing, with its refusal.
pub record Ground : Type 0 where
  pub holds : Bool
  pub refusal : Refusal

abbrev pub ground_for : Bool → Refusal → Ground
ground_for b r = record { holds = b; refusal = r }

-- The first ground that holds.
abbrev pub first : List Ground → Option Refusal
first [] = None
first (g ∷ gs) = cond g.holds (Some g.refusal) (first gs)

-- The point, the distance or their sum is beyond the furthest place.
abbrev pub is_beyond : (point distance : ℕ) → Bool
is_beyond point distance = (nat_lt max_place point || nat_lt max_place distance) || nat_lt max_place (point + distance)

-- The place is beyond the furthest, the speed above the greatest.
abbrev pub too_far : (place : ℕ) → Ground
too_far place = ground_for (nat_lt max_place place) PlaceOutOfLimits

abbrev pub too_fast : (greatest speed : ℕ) → Ground
too_fast greatest speed = ground_for (nat_lt greatest speed) TooFast

-- The grounds that lie in the call's own numbers, whatever stands.
abbrev pub limits : Meaning → Call → List Ground
limits m (Slope p g) = too_far p.millimetres ∷ ground_for (is_unfit g.thousandths) GradeOutOfLimits ∷ []
limits m (Announce n p d v) = ground_for (is_beyond p.millimetres d.millimetres) PlaceOutOfLimits ∷ too_fast m.top v.tenths ∷ []
limits m (Withdraw n) = []
limits m (Ceiling p v) = too_far p.millimetres ∷ too_fast m.top v.tenths ∷ []
limits m (Lift p) = too_far p.millimetres ∷ []
limits m (Sample p v) = too_far p.millimetres ∷ too_fast max_speed v.tenths ∷ []
limits m Release = []

-- The phase is emergency, and the last accepted call was a sample in zone 0.
abbrev pub is_releasable : Phase → Bool → Bool
is_releasable Free clear = false
is_releasable Warning clear = false
is_releasable Emergency clear = clear

-- The grounds for not adding an item: one stands in its way, or no more fit.
abbrev pub adding_obstacles : {X : Type 0} → Bool → Listed X → List Ground
adding_obstacles taken l = ground_for taken Conflict ∷ ground_for (l.room == 0) Full ∷ []

-- The ground for not taking an item out: there is none.
abbrev pub taking_obstacles : Bool → List Ground
taking_obstacles there = ground_for (not there) Conflict ∷ []

-- By the kinds of item: a section is added by its place, a target added and taken out by its number, a ceiling by its place.
abbrev pub section_obstacles : (place : ℕ) → Track → List Ground
section_obstacles p t = adding_obstacles (begins_at p t.sections.items) t.sections

abbrev pub target_obstacles : (number : ℕ) → Track → List Ground
target_obstacles n t = adding_obstacles (has_number n t.targets.items) t.targets

abbrev pub withdrawal_obstacles : (number : ℕ) → Track → List Ground
withdrawal_obstacles n t = taking_obstacles (has_number n t.targets.items)

abbrev pub ceiling_obstacles : (place : ℕ) → Track → List Ground
ceiling_obstacles p t = adding_obstacles (ceiling_begins_at p t.ceilings.items) t.ceilings

abbrev pub lift_obstacles : (place : ℕ) → Track → List Ground
lift_obstacles p t = taking_obstacles (ceiling_begins_at p t.ceilings.items)

-- The grounds that lie in what stands, in the room, and in the phase.
abbrev pub obstacles : State → Call → List Ground
obstacles s (Slope p g) = section_obstacles p.millimetres s.track
obstacles s (Announce n p d v) = target_obstacles n s.track
obstacles s (Withdraw n) = withdrawal_obstacles n s.track
obstacles s (Ceiling p v) = ceiling_obstacles p.millimetres s.track
obstacles s (Lift p) = lift_obstacles p.millimetres s.track
obstacles s (Sample p v) = []
obstacles s Release = ground_for (not (is_releasable s.phase s.clear)) NotReleasable ∷ []

-- The grounds on which a call is refused, in the order of their numbers.
abbrev pub grounds : Meaning → State → Call → List Ground
grounds m s c = limits m c ++ obstacles s c

-- The phase after a sample, by the phase before it and the zone.
abbrev pub next_phase : Phase → Zone → Phase
next_phase Free zones.Clear = Free
next_phase Free zones.Nominal = Free
next_phase Free zones.Warning = Warning
next_phase Free zones.Control = Emergency
next_phase Warning zones.Clear = Free
next_phase Warning zones.Nominal = Warning
next_phase Warning zones.Warning = Warning
next_phase Warning zones.Control = Emergency
next_phase Emergency z = Emergency

-- One item more, in the order of the places.
abbrev pub with_item : {X : Type 0} → (X → ℕ) → X → Listed X → Listed X
with_item place x l = record { items = placed_in place x l.items; room = l.room - 1 }

-- Without the first item of the mark.
abbrev pub without_mark : {X : Type 0} → (X → ℕ) → ℕ → List X → List X
without_mark mark n [] = []
without_mark mark n (x ∷ xs) = cond (mark x == n) xs (x ∷ without_mark mark n xs)

-- One item fewer.
abbrev pub without_item : {X : Type 0} → (X → ℕ) → ℕ → Listed X → Listed X
without_item mark n l = record { items = without_mark mark n l.items; room = l.room + 1 }

-- The track with one section more, with one target more or one fewer, and so with ceilings.
abbrev pub with_section : Section → Track → Track
with_section x t = record t { sections = with_item (λ (y : Section). y.place) x t.sections }

abbrev pub with_target : Target → Track → Track
with_target x t = record t { targets = with_item (λ (y : Target). y.place) x t.targets }

abbrev pub without_target : ℕ → Track → Track
without_target n t = record t { targets = without_item (λ (y : Target). y.number) n t.targets }

abbrev pub with_ceiling : SpeedCeiling → Track → Track
with_ceiling c t = record t { ceilings = with_item (λ (y : SpeedCeiling). y.place) c t.ceilings }

abbrev pub without_ceiling : (place : ℕ) → Track → Track
without_ceiling p t = record t { ceilings = without_item (λ (y : SpeedCeiling). y.place) p t.ceilings }

-- What a step answers, and the state after it.
pub record Stepped : Type 0 where
  pub answer : Answer
  pub state : State

-- After an accepted call that is no sample no release is due.
abbrev pub after_call : State → Stepped
after_call s = record { answer = Ok None; state = record s { clear = false } }

-- An accepted sample answers its zone.
abbrev pub after_sample : State → Zone → Stepped
after_sample s z = record { answer = Ok (Some z); state = record s { phase = next_phase s.phase z; clear = is_clear z } }

-- What an accepted call does.
abbrev pub does : Values → Meaning → State → Call → Stepped
does sheet m s (Slope p g) = after_call (record s { track = with_section (record { place = p.millimetres; grade = g.thousandths }) s.track })
does sheet m s (Announce n p d v) = after_call (record s { track = with_target (record { number = n; place = target_place sheet p.millimetres d.millimetres; speed = v.tenths }) s.track })
does sheet m s (Withdraw n) = after_call (record s { track = without_target n s.track })
does sheet m s (Ceiling p v) = after_call (record s { track = with_ceiling (record { place = p.millimetres; speed = v.tenths }) s.track })
does sheet m s (Lift p) = after_call (record s { track = without_ceiling p.millimetres s.track })
does sheet m s (Sample p v) = after_sample s (zone sheet m s.track p.millimetres v.tenths)
does sheet m s Release = after_call (record s { phase = Free })

-- A refusal leaves the state alone.
abbrev pub decide : Option Refusal → State → Stepped → Stepped
decide None s done = done
decide (Some r) s done = record { answer = Err r; state = s }

-- One call of the mission.
abbrev pub step : Values → Meaning → State → Call → Stepped
step sheet m s c = decide (first (grounds m s c)) s (does sheet m s c)
