-- The zone of a sample: how near the train is to the nearest of its braking distances, and how far above the ceiling at its front.
use Rattle.std.specs.Prelude.{ℕ, ◌+◌, ◌-◌, Bool, true, false, cond, List, [], ◌∷◌, ℤ, Some, None, Option, max, nat_le, nat_lt, zero, suc}
use Rattle.std.specs.Int.{int_min}
use Rattle.braking.specs.Meaning.{Meaning, Question, Verdict, binds, weak, strong}
use Rattle.calls.specs.Zones.{max_zone}
use Rattle.calls.specs.declared.zone.Zone.{Zone}
use Rattle.calls.specs.declared.zone.Zone.TheVariants as zones
use Rattle.sheet.specs.declared.values.Values.{Values}
use Rattle.history.specs.History.{Section, SpeedCeiling, Target, rear_of, steepest}
use Rattle.history.specs.State.{Track}

-- What holds at a place: the value of the last item that begins up to it. The items ascend; v holds before the first of them, and then that of the last so far.
abbrev pub held_at : {X V : Type 0} → (place : X → ℕ) → (value : X → V) → V → List X → (p : ℕ) → V
held_at place value v [] p = v
held_at place value v (x ∷ xs) p = cond (nat_le (place x) p) (held_at place value (value x) xs p) v

-- The grade at a place: that of the last section that begins up to it, and the steepest before the first. The sections ascend.
abbrev pub grade_at : List Section → (p : ℕ) → ℤ
grade_at xs p = held_at (λ (x : Section). x.place) (λ (x : Section). x.grade) steepest xs p

-- The least of the grades at a place and at so many places further on.
abbrev pub least_from : List Section → (from more : ℕ) → ℤ
least_from xs from zero = grade_at xs from
least_from xs from (suc n) = int_min (least_from xs from n) (grade_at xs (from + suc n))

-- The least grade of a stretch: of the grades at all its places, both ends counted.
abbrev pub least_grade : List Section → (from to : ℕ) → ℤ
least_grade xs from to = least_from xs from (to - from)

-- The zone by the distance left: control where it is at most control, and so on outwards.
abbrev pub zone_within : (control warning nominal : ℕ) → (front place : ℕ) → Zone
zone_within control warning nominal front place =
    cond (nat_le place (front + control)) zones.Control
    (cond (nat_le place (front + warning)) zones.Warning
    (cond (nat_le place (front + nominal)) zones.Nominal zones.Clear))

-- The zone of a target by its verdict: control where it is weak.
abbrev pub zone_of : Verdict → (front place : ℕ) → Zone
zone_of weak front place = zones.Control
zone_of (strong exact c) front place = zone_within c.control c.warning c.nominal front place

-- The question for a target, by the least grade from the train's rear to the target, or to its front once the target is passed.
abbrev pub question : List Section → (rear front speed : ℕ) → Target → Question
question xs rear front speed t = record { speed = speed; target_speed = t.speed; grade = least_grade xs rear (max front t.place) }

-- The zone of a target at a sample: clear where it does not bind.
abbrev pub target_zone : Meaning → List Section → (rear front speed : ℕ) → Target → Zone
target_zone m xs rear front speed t = cond (binds m (question xs rear front speed t)) (zone_of (m.verdict (question xs rear front speed t)) front t.place) zones.Clear

-- The largest zone of the targets.
abbrev pub largest_zone : Meaning → List Section → (rear front speed : ℕ) → List Target → Zone
largest_zone m xs rear front speed [] = zones.Clear
largest_zone m xs rear front speed (t ∷ ts) = max_zone (target_zone m xs rear front speed t) (largest_zone m xs rear front speed ts)

-- The speed of the ceiling at the front, if there is one.
abbrev pub ceiling_speed_at : List SpeedCeiling → (front : ℕ) → Option ℕ
ceiling_speed_at cs front = held_at (λ (c : SpeedCeiling). c.place) (λ (c : SpeedCeiling). Some c.speed) None cs front

-- The zone by how many tenths of km/h a train is above the ceiling.
abbrev pub excess_zone : (excess : ℕ) → Zone
excess_zone excess =
    cond (nat_lt 100 excess) zones.Control
    (cond (nat_lt 50 excess) zones.Warning
    (cond (nat_lt 0 excess) zones.Nominal zones.Clear))

-- The zone under a ceiling of that speed, if there is one.
abbrev pub zone_under : (ceiling : Option ℕ) → (speed : ℕ) → Zone
zone_under None speed = zones.Clear
zone_under (Some c) speed = excess_zone (speed - c)

-- The zone by the ceiling at the front.
abbrev pub ceiling_zone : List SpeedCeiling → (front speed : ℕ) → Zone
ceiling_zone cs front speed = zone_under (ceiling_speed_at cs front) speed

-- The zone of a sample: the larger of the targets' and the ceiling's, and control above the top speed.
abbrev pub zone : Values → Meaning → Track → (front speed : ℕ) → Zone
zone sheet m t front speed =
    cond (nat_lt m.top speed) zones.Control
    (max_zone (largest_zone m t.sections.items (rear_of sheet front) front speed t.targets.items) (ceiling_zone t.ceilings.items front speed))

-- The zone is 0.
abbrev pub is_clear : Zone → Bool
is_clear zones.Clear = true
is_clear zones.Nominal = false
is_clear zones.Warning = false
is_clear zones.Control = false
