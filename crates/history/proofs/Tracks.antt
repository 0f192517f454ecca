-- The state holds what stands by the history: a relation that each step keeps.
use Rattle.std.proofs.Common.{◌≡◌, ℕ, ◌≤◌, max, true, false, Bool, [], ◌∷◌, ◌++◌, ℤ, ◌≤ℤ◌, Some, None, Err, Option, sym, refl, ap, ◌∙◌, subst, inl, inr, arith}
use Rattle.std.proofs.lemmas.Int.{ints}
use Rattle.units.specs.declared.quantities.Distance.{Distance}
use Rattle.units.specs.declared.quantities.Grade.{Grade}
use Rattle.units.specs.declared.quantities.Speed.{Speed}
use Rattle.braking.specs.Meaning.{Meaning}
use Rattle.calls.specs.Answers.{Answer}
use Rattle.calls.specs.declared.call.Call.{Call}
use Rattle.calls.specs.declared.call.Call.TheVariants.{Slope, Announce, Withdraw, Ceiling, Lift, Sample, Release}
use Rattle.calls.specs.declared.phase.Phase.{Phase}
use Rattle.calls.specs.declared.phase.Phase.TheVariants.{Free}
use Rattle.calls.specs.declared.record.Record.{Record}
use Rattle.calls.specs.declared.refusal.Refusal.{Refusal}
use Rattle.sheet.specs.declared.values.Values.{Values}
use Rattle.history.specs.Agrees.{ListedExactly}
use Rattle.history.specs.History.{History, Section, SpeedCeiling, Target, Adds, Announces, CeilingHolds, CeilingStands, GradeAt, GradeAhead, GradeOfStretch, SectionStands, TargetStands, WasAccepted, ceiling_from, lift, rear_of, target_place, steepest, slope, announce, withdraw, sample}
use Rattle.history.specs.Lines.{HasOneCeilingAtMost}
use Rattle.history.specs.State.{Capacity, empty_track, State, Valid, start}
use Rattle.history.specs.Zones.{ceiling_speed_at, grade_at, least_grade}
use Rattle.history.specs.Step.{step, does, decide, first, grounds}
use Rattle.history.specs.Runs.{entry_of}
use Rattle.history.proofs.Begun.{held_is, held_one, one_last}
use Rattle.history.proofs.Exact.{exactly_added, exactly_same, exactly_taken, holds_listed, holds_standing, section_added, sections_same}
use Rattle.history.proofs.Tracked.{Ascends, Tracks, ceiling_place, further_ascends, section_place, target_number, target_place_of, valid_ascends, valid_distinct}
use Rattle.history.proofs.Validity.{done_valid}
use Rattle.history.proofs.Splits.{last_push, accepted_none, not_true, stands_none}
use Rattle.history.proofs.Grades.{GradeIn, grade_at_is, grade_at_one, least_below, least_reached}
use Rattle.history.proofs.Lists.{ascends_distinct}

pub tracks_start : (sheet : Values) (capacity : Capacity) → Tracks sheet [] (start (empty_track capacity))
tracks_start sheet capacity = record {
  phase = refl;
  sections = record { listed = λ x a. absurd (accepted_none _ a); stands = λ x i. absurd i };
  targets = record { listed = λ t a. absurd (stands_none (Announces sheet t) (withdraw t.number) a); stands = λ t i. absurd i };
  ceilings = record { listed = λ c a. absurd (stands_none _ (lift c.place) a); stands = λ c i. absurd i };
  valid = record { sections = refl; targets = refl; ceilings = refl };
}

abbrev some_speed : SpeedCeiling → Option ℕ
some_speed c = Some c.speed

-- What holds at a place, by the state's lists.

module _ (sheet : Values) (h : History) (s : State) (k : Tracks sheet h s) where
  ascending : Ascends section_place s.track.sections.items
  ascending = valid_ascends s.track.sections.items k.valid.sections

  ceilings_ascending : Ascends ceiling_place s.track.ceilings.items
  ceilings_ascending = further_ascends ceiling_place s.track.ceilings.items k.valid.ceilings

  to_list : (p : ℕ) (g : ℤ) → GradeAt h p g → GradeIn s.track.sections.items p g
  to_list p g (inl w) = inl (w.0, holds_listed (SectionStands h) s.track.sections.items section_place p w.0 k.sections w.1, w.2)
  to_list p g (inr w) = inr ((λ y i. w.0 y (k.sections.stands y i)), w.1)

  from_list : (p : ℕ) (g : ℤ) → GradeIn s.track.sections.items p g → GradeAt h p g
  from_list p g (inl w) = inl (w.0, holds_standing (SectionStands h) s.track.sections.items section_place p w.0 k.sections w.1, w.2)
  from_list p g (inr w) = inr ((λ y a. w.0 y (k.sections.listed y a)), w.1)

  pub at_is : (p : ℕ) (g : ℤ) → grade_at s.track.sections.items p ≡ g → GradeAt h p g
  at_is p g e = from_list p g (subst (λ (g : ℤ). GradeIn s.track.sections.items p g) e (grade_at_is s.track.sections.items p ascending))

  pub at_one : (p : ℕ) (g : ℤ) → GradeAt h p g → grade_at s.track.sections.items p ≡ g
  at_one p g a = grade_at_one s.track.sections.items p _ g ascending (grade_at_is s.track.sections.items p ascending) (to_list p g a)

  -- the computed grade of a stretch is the one by the history
  module _ (from to : ℕ) (forward : from ≤ to) where
    pub stretch_is : GradeOfStretch h from to (least_grade s.track.sections.items from to)
    stretch_is =
        let r = least_reached s.track.sections.items from to forward in
        record {
          somewhere = (r.0, r.1, r.2, at_is r.0 _ r.3);
          least = λ p g l m a. subst (λ (g : ℤ). least_grade s.track.sections.items from to ≤ℤ g) (at_one p g a) (least_below s.track.sections.items from to forward p l m);
        }

    pub stretch_one : (g : ℤ) → GradeOfStretch h from to g → g ≡ least_grade s.track.sections.items from to
    stretch_one g w =
        let c : GradeOfStretch h from to (least_grade s.track.sections.items from to) = stretch_is in
        let p = w.somewhere in
        let r = c.somewhere in
        let low : least_grade s.track.sections.items from to ≤ℤ g = c.least p.0 g p.1 p.2 p.3 in
        let high : g ≤ℤ least_grade s.track.sections.items from to = w.least r.0 _ r.1 r.2 r.3 in
        omega (arith, ints)

  forward : (front place : ℕ) → rear_of sheet front ≤ max front place
  forward front place = omega arith

  pub ahead_is : (front place : ℕ) → GradeAhead sheet h front place (least_grade s.track.sections.items (rear_of sheet front) (max front place))
  ahead_is front place = stretch_is (rear_of sheet front) (max front place) (forward front place)

  pub ahead_one : (front place : ℕ) (g : ℤ) → GradeAhead sheet h front place g → g ≡ least_grade s.track.sections.items (rear_of sheet front) (max front place)
  ahead_one front place g w = stretch_one (rear_of sheet front) (max front place) (forward front place) g w

  -- the ceiling that holds is the one in the list
  pub ceiling_is : (front : ℕ) (c : SpeedCeiling) → CeilingHolds h front c → ceiling_speed_at s.track.ceilings.items front ≡ Some c.speed
  ceiling_is front c w =
      held_one ceiling_place some_speed None s.track.ceilings.items front _ (Some c.speed) ceilings_ascending
      (held_is ceiling_place some_speed None s.track.ceilings.items front ceilings_ascending)
      (inl (c, holds_listed (CeilingStands h) s.track.ceilings.items ceiling_place front c k.ceilings w, refl))

  pub ceiling_found : (front v : ℕ) → ceiling_speed_at s.track.ceilings.items front ≡ Some v → (c : SpeedCeiling) × CeilingHolds h front c × (c.speed ≡ v)
  ceiling_found front v e =
      elim (held_is ceiling_place some_speed None s.track.ceilings.items front ceilings_ascending) [
        | inl w ↦ (w.0, holds_standing (CeilingStands h) s.track.ceilings.items ceiling_place front w.0 k.ceilings w.1, grind arith)
        | inr w ↦ absurd (grind arith)
      ]

  pub one_ceiling_there : HasOneCeilingAtMost h
  one_ceiling_there p =
      elim (held_is ceiling_place some_speed None s.track.ceilings.items p ceilings_ascending) [
        | inl w ↦ inl (
          w.0,
          holds_standing (CeilingStands h) s.track.ceilings.items ceiling_place p w.0 k.ceilings w.1,
          λ d v. one_last ceiling_place s.track.ceilings.items p d w.0 ceilings_ascending (holds_listed (CeilingStands h) s.track.ceilings.items ceiling_place p d k.ceilings v) w.1,
        )
        | inr w ↦ inr (λ d a. w.0 d (k.ceilings.listed d a))
      ]

-- The numbers of a call.

abbrev place_in : Call → ℕ
place_in (Slope p g) = p.millimetres
place_in (Announce n p d v) = p.millimetres
place_in (Ceiling p v) = p.millimetres
place_in (Lift p) = p.millimetres
place_in (Sample p v) = p.millimetres
place_in _ = 0

abbrev grade_of : Call → ℤ
grade_of (Slope p g) = g.thousandths
grade_of _ = steepest

abbrev number_in : Call → ℕ
number_in (Announce n p d v) = n
number_in (Withdraw n) = n
number_in _ = 0

abbrev distance_in : Call → ℕ
distance_in (Announce n p d v) = d.millimetres
distance_in _ = 0

abbrev speed_in : Call → ℕ
speed_in (Announce n p d v) = v.tenths
speed_in (Ceiling p v) = v.tenths
speed_in (Sample p v) = v.tenths
speed_in _ = 0

pub same_front : (p : Distance) (v : Speed) (front speed : ℕ) → Sample p v ≡ sample front speed → front ≡ p.millimetres
same_front p v front speed e = sym (ap place_in e)

pub same_speed : (p : Distance) (v : Speed) (front speed : ℕ) → Sample p v ≡ sample front speed → speed ≡ v.tenths
same_speed p v front speed e = sym (ap speed_in e)

-- The call alters a list, where it is accepted.
abbrev alters_lists : Call → Bool
alters_lists (Sample p v) = false
alters_lists Release = false
alters_lists _ = true

-- The steps.

abbrev section : ℕ → ℤ → Section
section p g = record { place = p; grade = g }

abbrev target : ℕ → ℕ → ℕ → Target
target n p v = record { number = n; place = p; speed = v }

abbrev ceiling : ℕ → ℕ → SpeedCeiling
ceiling p v = record { place = p; speed = v }

same_ceiling : (p q v w : ℕ) → p ≡ q → v ≡ w → ceiling p v ≡ ceiling q w
same_ceiling p q v w a b = grind arith

same_section : (p q : ℕ) (g k : ℤ) → p ≡ q → g ≡ k → section p g ≡ section q k
same_section p q g k a b = grind arith

same_target : (n m p q v w : ℕ) → n ≡ m → p ≡ q → v ≡ w → target n p v ≡ target m q w
same_target n m p q v w a b c = grind arith

module _ (sheet : Values) (h : History) (s : State) (k : Tracks sheet h s) where
  -- what no accepted call of an entry alters
  module _ (e : Record) where
    sections_stay : ((q : ℕ) (g : ℤ) → e.call ≡ slope q g → WasAccepted e.answer → ⊥) → ListedExactly (SectionStands (h ++ e ∷ [])) s.track.sections.items
    sections_stay never = sections_same h e s.track.sections.items k.sections (λ x a. never x.place x.grade a.0 a.1)

    targets_stay : ((n q d v : ℕ) → e.call ≡ announce n q d v → WasAccepted e.answer → ⊥) → ((n : ℕ) → e.call ≡ withdraw n → WasAccepted e.answer → ⊥) → ListedExactly (TargetStands sheet (h ++ e ∷ [])) s.track.targets.items
    targets_stay never-adds never-takes =
        exactly_same (λ (t : Target). Announces sheet t) (λ (t : Target). withdraw t.number) h e s.track.targets.items k.targets
        (λ t a acc. never-adds t.number a.point a.distance t.speed a.call acc) (λ t a. never-takes t.number a.0 a.1)

    ceilings_stay : ((q v : ℕ) → e.call ≡ ceiling_from q v → WasAccepted e.answer → ⊥) → ((q : ℕ) → e.call ≡ lift q → WasAccepted e.answer → ⊥) → ListedExactly (CeilingStands (h ++ e ∷ [])) s.track.ceilings.items
    ceilings_stay never-adds never-takes =
        exactly_same (λ (c : SpeedCeiling). Adds c) (λ (c : SpeedCeiling). lift c.place) h e s.track.ceilings.items k.ceilings
        (λ c a acc. never-adds c.place c.speed a acc) (λ c a. never-takes c.place a.0 a.1)

  -- an entry that alters no list, with the phase after it
  tracks_same : (e : Record) (s' : State) → s'.track ≡ s.track → s'.phase ≡ e.phase → (WasAccepted e.answer → alters_lists e.call ≡ false) → Tracks sheet (h ++ e ∷ []) s'
  tracks_same e s' same p quiet =
      let never : (c : Call) → alters_lists c ≡ true → e.call ≡ c → WasAccepted e.answer → ⊥ = λ c l is acc. not_true (sym (quiet acc) ∙ (ap alters_lists is ∙ l)) in
      rw same (record {
        phase = last_push Free h e ∙ sym p;
        sections = sections_stay e (λ q g. never (slope q g) refl);
        targets = targets_stay e (λ n q d v. never (announce n q d v) refl) (λ n. never (withdraw n) refl);
        ceilings = ceilings_stay e (λ q v. never (ceiling_from q v) refl) (λ q. never (lift q) refl);
        valid = k.valid;
      })

module _ (sheet : Values) (m : Meaning) (h : History) (s : State) (k : Tracks sheet h s) where
  tracks_refused : (c : Call) (r : Refusal) → Tracks sheet (h ++ record { call = c; answer = Err r; phase = s.phase } ∷ []) s
  tracks_refused c r = tracks_same sheet h s k (record { call = c; answer = Err r; phase = s.phase }) s refl refl (λ acc. absurd acc)

  tracks_slope : (p : Distance) (g : Grade) → Valid (does sheet m s (Slope p g)).state.track →
      Tracks sheet (h ++ entry_of (Slope p g) (does sheet m s (Slope p g)) ∷ []) (does sheet m s (Slope p g)).state
  tracks_slope p g v =
      let e : Record = entry_of (Slope p g) (does sheet m s (Slope p g)) in
      let new : Section = section p.millimetres g.thousandths in
      record {
        phase = last_push Free h e;
        sections = section_added h e s.track.sections.items k.sections new (refl, tt) (λ x a. same_section x.place p.millimetres x.grade g.thousandths (sym (ap place_in a.0)) (sym (ap grade_of a.0)));
        targets = targets_stay sheet h s k e (λ n q d v a _. grind arith) (λ n a _. grind arith);
        ceilings = ceilings_stay sheet h s k e (λ q v a _. grind arith) (λ q a _. grind arith);
        valid = v;
      }

  tracks_announce : (n : ℕ) (p d : Distance) (w : Speed) → Valid (does sheet m s (Announce n p d w)).state.track →
      Tracks sheet (h ++ entry_of (Announce n p d w) (does sheet m s (Announce n p d w)) ∷ []) (does sheet m s (Announce n p d w)).state
  tracks_announce n p d w v =
      let e : Record = entry_of (Announce n p d w) (does sheet m s (Announce n p d w)) in
      let new : Target = target n (target_place sheet p.millimetres d.millimetres) w.tenths in
      record {
        phase = last_push Free h e;
        sections = sections_stay sheet h s k e (λ q g a _. grind arith);
        targets = exactly_added (λ (t : Target). Announces sheet t) (λ (t : Target). withdraw t.number) h e s.track.targets.items k.targets target_place_of new tt
            (record { point = p.millimetres; distance = d.millimetres; call = refl; placed = refl })
            (λ t a. same_target t.number n t.place _ t.speed w.tenths (sym (ap number_in a.call))
            (a.placed ∙ (ap (λ (x : ℕ). target_place sheet x a.distance) (sym (ap place_in a.call)) ∙ ap (λ (x : ℕ). target_place sheet p.millimetres x) (sym (ap distance_in a.call)))) (sym (ap speed_in a.call))) (λ t a. grind arith);
        ceilings = ceilings_stay sheet h s k e (λ q u a _. grind arith) (λ q a _. grind arith);
        valid = v;
      }

  tracks_withdraw : (n : ℕ) → Valid (does sheet m s (Withdraw n)).state.track → Tracks sheet (h ++ entry_of (Withdraw n) (does sheet m s (Withdraw n)) ∷ []) (does sheet m s (Withdraw n)).state
  tracks_withdraw n v =
      let e : Record = entry_of (Withdraw n) (does sheet m s (Withdraw n)) in
      record {
        phase = last_push Free h e;
        sections = sections_stay sheet h s k e (λ q g a _. grind arith);
        targets = exactly_taken (λ (t : Target). Announces sheet t) (λ (t : Target). withdraw t.number) h e s.track.targets.items k.targets target_number n (valid_distinct s.track.targets.items k.valid.targets)
            (λ t a. let c : Withdraw n ≡ announce t.number a.point a.distance t.speed = a.call in grind arith) (λ t q. (ap withdraw (sym q), tt)) (λ t a. sym (ap number_in a.0));
        ceilings = ceilings_stay sheet h s k e (λ q w a _. grind arith) (λ q a _. grind arith);
        valid = v;
      }

  tracks_ceiling : (p : Distance) (w : Speed) → Valid (does sheet m s (Ceiling p w)).state.track →
      Tracks sheet (h ++ entry_of (Ceiling p w) (does sheet m s (Ceiling p w)) ∷ []) (does sheet m s (Ceiling p w)).state
  tracks_ceiling p w v =
      let e : Record = entry_of (Ceiling p w) (does sheet m s (Ceiling p w)) in
      let new : SpeedCeiling = ceiling p.millimetres w.tenths in
      record {
        phase = last_push Free h e;
        sections = sections_stay sheet h s k e (λ q g a _. grind arith);
        targets = targets_stay sheet h s k e (λ n q d u a _. grind arith) (λ n a _. grind arith);
        ceilings = exactly_added (λ (c : SpeedCeiling). Adds c) (λ (c : SpeedCeiling). lift c.place) h e s.track.ceilings.items k.ceilings ceiling_place new tt
            refl (λ c a. same_ceiling c.place p.millimetres c.speed w.tenths (sym (ap place_in a)) (sym (ap speed_in a))) (λ c a. grind arith);
        valid = v;
      }

  tracks_lift : (p : Distance) → Valid (does sheet m s (Lift p)).state.track → Tracks sheet (h ++ entry_of (Lift p) (does sheet m s (Lift p)) ∷ []) (does sheet m s (Lift p)).state
  tracks_lift p v =
      let e : Record = entry_of (Lift p) (does sheet m s (Lift p)) in
      record {
        phase = last_push Free h e;
        sections = sections_stay sheet h s k e (λ q g a _. grind arith);
        targets = targets_stay sheet h s k e (λ n q d w a _. grind arith) (λ n a _. grind arith);
        ceilings = exactly_taken (λ (c : SpeedCeiling). Adds c) (λ (c : SpeedCeiling). lift c.place) h e s.track.ceilings.items k.ceilings ceiling_place p.millimetres
            (ascends_distinct ceiling_place s.track.ceilings.items (ceilings_ascending sheet h s k))
            (λ c a. grind arith) (λ c q. (ap lift (sym q), tt)) (λ c a. sym (ap place_in a.0));
        valid = v;
      }

  tracks_does : (c : Call) → Valid (does sheet m s c).state.track → Tracks sheet (h ++ entry_of c (does sheet m s c) ∷ []) (does sheet m s c).state
  tracks_does (Slope p g) v = tracks_slope p g v
  tracks_does (Announce n p d w) v = tracks_announce n p d w v
  tracks_does (Withdraw n) v = tracks_withdraw n v
  tracks_does (Ceiling p w) v = tracks_ceiling p w v
  tracks_does (Lift p) v = tracks_lift p v
  tracks_does (Sample p w) v = tracks_same sheet h s k _ _ refl refl (λ acc. refl)
  tracks_does Release v = tracks_same sheet h s k _ _ refl refl (λ acc. refl)

  pub tracks_step : (c : Call) → Tracks sheet (h ++ entry_of c (step sheet m s c) ∷ []) (step sheet m s c).state
  tracks_step c = elim (first (grounds m s c)) as (λ o. first (grounds m s c) ≡ o → Tracks sheet (h ++ entry_of c (decide o s (does sheet m s c)) ∷ []) (decide o s (does sheet m s c)).state)
      [ None ↦ λ e. tracks_does c (done_valid sheet m s k.valid c e) | Some r ↦ λ e. tracks_refused c r ] refl

-- Any sample leaves what stands as it is, with its phase.
pub tracks_sampled : (sheet : Values) (h : History) (s : State) → Tracks sheet h s → (front speed : ℕ) (p : Phase) (a : Answer) →
    Tracks sheet (h ++ record { call = sample front speed; answer = a; phase = p } ∷ []) (record { track = s.track; phase = p; clear = false })
tracks_sampled sheet h s k front speed p a = tracks_same sheet h s k _ _ refl refl (λ acc. refl)
