-- The worked runs, that their meaning is lawful, and histories that the lines rule out.
use Rattle.std.proofs.Common.{◌≡◌, ℕ, ◌<◌, ◌≤◌, true, false, List, [], ◌∷◌, ◌++◌, pos, negsuc, None, Ok, sym, refl, ap, ◌∙◌, append_assoc, subst, inl, inr, arith, lit<, lit≤}
use Rattle.place_list.specs.Membership.{In}
use Rattle.braking.specs.Laws.{Lawful}
use Rattle.braking.specs.Meaning.{Question, Binds}
use Rattle.calls.specs.declared.phase.Phase.TheVariants.{Free, Warning, Emergency}
use Rattle.calls.specs.declared.record.Record.{Record}
use Rattle.history.specs.History.{History, SpeedCeiling, Target, Bound, CeilingHolds, ceiling_from, lift, slope, announce, withdraw, sample, release}
use Rattle.history.specs.Lines.{FarAbove, KeepsTheLines, Lines, OnAfter, Reason, MayBrake, MayRelease, LastSampleJustifies}
use Rattle.history.specs.State.{empty_track, full_capacity, State, empty, start}
use Rattle.history.proofs.Tracked.{Tracks}
use Rattle.history.proofs.Splits.{last_push, split_push}
use Rattle.history.proofs.Tracks.{tracks_start, tracks_step, tracks_sampled, ahead_is, same_front, same_speed}
use Rattle.history.proofs.Steps.{asked_at, asks}
use Rattle.history.specs.Examples.{sheet, tenfold, Worked, accepted_entry, one_ceiling, one_target, past_a_fall, RuledOut}

pub worked : Worked
worked = record { numbers = refl; phases = refl; ceiling_numbers = refl; ceiling_phases = refl; crest_numbers = refl; crest_phases = refl }

pub tenfold_lawful : Lawful tenfold
tenfold_lawful = grind arith

off : Free ≡ Emergency → ⊥
off e = grind arith

warned : Warning ≡ Emergency → ⊥
warned e = grind arith

-- Where a sample brings the brake on, there is a reason at its front and speed.
reason : (h : History) (p v : ℕ) → (OnAfter h → ⊥) → KeepsTheLines sheet tenfold (h ++ accepted_entry (sample p v) Emergency ∷ []) → Reason sheet tenfold h p v
reason h p v was_off k =
    let w = (k h _ [] refl).for_a_reason was_off refl in
    subst (λ (x : ℕ). Reason sheet tenfold h p x) (same_speed (record { millimetres = p }) (record { tenths = v }) w.0 w.1 w.2.0)
    (subst (λ (x : ℕ). Reason sheet tenfold h x w.1) (same_front (record { millimetres = p }) (record { tenths = v }) w.0 w.1 w.2.0) w.3)

-- Where no target is listed and the speed is up to the top, the reason is a ceiling; with no ceiling listed there is none.
only_a_ceiling : (h : History) (s : State) (p v : ℕ) → Tracks sheet h s → s.track.targets.items ≡ [] → v ≤ 500 → Reason sheet tenfold h p v → (c : SpeedCeiling) × CeilingHolds h p c × FarAbove v c
only_a_ceiling h s p v k none up (inl fast) = absurd (omega (arith, up, fast))
only_a_ceiling h s p v k none up (inr (inl w)) = absurd (rw none at (k.targets.listed w.1.0 w.1.2.stands))
only_a_ceiling h s p v k none up (inr (inr w)) = w

no_reason : (h : History) (s : State) (p v : ℕ) → Tracks sheet h s → s.track.targets.items ≡ [] → s.track.ceilings.items ≡ [] → v ≤ 500 → Reason sheet tenfold h p v → ⊥
no_reason h s p v k none free up r = let w = only_a_ceiling h s p v k none up r in subst (λ (cs : List SpeedCeiling). In w.0 cs) free (k.ceilings.listed w.0 w.1.stands)

-- What a release right behind a sample says of the history before the sample, its front and its speed.
abbrev Justified : History → ℕ → ℕ → Type 0
Justified h p v =
    (v ≤ 500) × ((t : Target) (q : Question) → Bound sheet tenfold h p v t q → MayRelease (tenfold.verdict q) p t.place) × ((c : SpeedCeiling) → CeilingHolds h p c → v ≤ c.speed)

justified : (h : History) (p v : ℕ) → KeepsTheLines sheet tenfold (h ++ accepted_entry (sample p v) Emergency ∷ accepted_entry release Free ∷ []) → Justified h p v
justified h p v k =
    let r : Record = accepted_entry (sample p v) Emergency in
    let w = ((k (h ++ r ∷ []) _ [] (sym (append_assoc h (r ∷ []) (accepted_entry release Free ∷ [])))).when_justified (last_push Free h r) off).1 in
    elim (split_push h w.before r w.entry w.last.after w.last.split) [
      | inl is ↦
          let c : sample p v ≡ sample w.front w.speed = ap (λ (e : Record). e.call) is.1 ∙ w.sampled.0 in
          subst (λ (b : History). Justified b p v) (sym is.0)
          (subst (λ (x : ℕ). Justified w.before p x) (same_speed (record { millimetres = p }) (record { tenths = v }) w.front w.speed c)
          (subst (λ (x : ℕ). Justified w.before x w.speed) (same_front (record { millimetres = p }) (record { tenths = v }) w.front w.speed c) (w.not_too_fast, w.all_let_go, w.not_above)))
      | inr older ↦ absurd (w.last.refused older.0 r [] older.1 tt)
    ]

-- The history with one target is a run's, and this is the state after it.
abbrev opened : State
opened = start (empty_track full_capacity)

abbrev sloped : State
sloped = record { track = record { sections = record { items = record { place = 0; grade = pos 4 } ∷ []; room = 63 }; targets = empty 32; ceilings = empty 48 }; phase = Free; clear = false }

abbrev made : State
made = record { track = record { sections = sloped.track.sections; targets = record { items = record { number = 7; place = 990; speed = 5 } ∷ []; room = 31 }; ceilings = empty 48 }; phase = Free; clear = false }

tracked : Tracks sheet one_target made
tracked = tracks_step sheet tenfold (accepted_entry (slope 0 (pos 4)) Free ∷ []) sloped
    (tracks_step sheet tenfold [] opened (tracks_start sheet full_capacity) (slope 0 (pos 4))) (announce 7 905 95 5)

abbrev goal : Target
goal = record { number = 7; place = 990; speed = 5 }

-- A target that is listed and binds.
bound : (h : History) (s : State) (p : ℕ) (t : Target) → Tracks sheet h s → In t s.track.targets.items → Binds tenfold (asked_at sheet s p 20 t) → Bound sheet tenfold h p 20 t (asked_at sheet s p 20 t)
bound h s p t k i b = record { stands = k.targets.stands t i; asks_speed = refl; asks_target = refl; asks_grade = ahead_is sheet h s k p t.place; binds = b }

near : Bound sheet tenfold one_target 790 20 goal (asked_at sheet made 790 20 goal)
near = bound one_target made 790 goal tracked (inl refl) refl

never : (h : History) → false ≡ true → LastSampleJustifies sheet tenfold h
never h e = grind arith

-- Where one target is listed and no ceiling, the reason is that target.
only_that : (h : History) (s : State) (p : ℕ) (g : Target) → Tracks sheet h s → s.clear ≡ false → s.track.targets.items ≡ g ∷ [] → s.track.ceilings.items ≡ [] →
    Reason sheet tenfold h p 20 → MayBrake (tenfold.verdict (asked_at sheet s p 20 g)) p g.place
only_that h s p g k barred one free (inl fast) = grind arith
only_that h s p g k barred one free (inr (inl w)) =
    let e = asks sheet tenfold tenfold_lawful h s k (λ c. never h (sym barred ∙ c)) p 20 w.1.0 w.1.1 w.1.2 in
    let may : MayBrake (tenfold.verdict (asked_at sheet s p 20 w.1.0)) p w.1.0.place = subst (λ (q : Question). MayBrake (tenfold.verdict q) p w.1.0.place) e w.1.3 in
    elim (rw one at (k.targets.listed w.1.0 w.1.2.stands)) [
      | inl same ↦ subst (λ (t : Target). MayBrake (tenfold.verdict (asked_at sheet s p 20 t)) p t.place) same may
      | inr none ↦ absurd none
    ]
only_that h s p g k barred one free (inr (inr w)) = absurd (rw free at (k.ceilings.listed w.0 w.1.stands))

-- As far from the target as the margin keeps the brake off.
early : Reason sheet tenfold one_target 699 20 → ⊥
early r = let may : MayBrake (tenfold.verdict (asked_at sheet made 699 20 goal)) 699 990 = only_that one_target made 699 goal tracked refl refl refl r in omega (arith, may)

-- 250 before the target, after the brake came on.
abbrev braked : History
braked = one_target ++ accepted_entry (sample 790 20) Emergency ∷ []

abbrev braking : State
braking = record made { phase = Emergency }

-- An entry differs from the run's only in what the lines do not ask of it.
braked_tracked : Tracks sheet braked braking
braked_tracked = tracks_sampled sheet one_target made tracked 790 20 Emergency (Ok None)

yet : Justified braked 740 20 → ⊥
yet w =
    let short : MayRelease (tenfold.verdict (asked_at sheet made 740 20 goal)) 740 990 = w.1 goal _ (bound braked braking 740 goal braked_tracked (inl refl) refl) in
    omega (arith, short)

-- A target with no section known.
abbrev lone : History
lone = accepted_entry (announce 7 905 95 5) Free ∷ []

abbrev alone : State
alone = record { track = record { sections = empty 64; targets = made.track.targets; ceilings = empty 48 }; phase = Free; clear = false }

lone_tracked : Tracks sheet lone alone
lone_tracked = tracks_step sheet tenfold [] opened (tracks_start sheet full_capacity) (announce 7 905 95 5)

steep : Bound sheet tenfold lone 0 20 goal (asked_at sheet alone 0 20 goal)
steep = bound lone alone 0 goal lone_tracked (inl refl) refl

-- A target beyond a fall: the state after it.
abbrev beyond : Target
beyond = record { number = 7; place = 2000; speed = 5 }

abbrev sloping : State
sloping = record {
  track = record {
    sections = record { items = record { place = 0; grade = negsuc 0 } ∷ record { place = 500; grade = pos 0 } ∷ []; room = 62 };
    targets = record { items = beyond ∷ []; room = 31 };
    ceilings = empty 48;
  };
  phase = Free;
  clear = false;
}

sloping_tracked : Tracks sheet past_a_fall sloping
sloping_tracked = tracks_step sheet tenfold (accepted_entry (slope 0 (negsuc 0)) Free ∷ accepted_entry (slope 500 (pos 0)) Free ∷ []) _
    (tracks_step sheet tenfold (accepted_entry (slope 0 (negsuc 0)) Free ∷ []) _
    (tracks_step sheet tenfold [] opened (tracks_start sheet full_capacity) (slope 0 (negsuc 0))) (slope 500 (pos 0))) (announce 7 2000 0 5)

-- With the rear on the fall the target is weak, with the rear at its foot there is room.
rear_on_it : Bound sheet tenfold past_a_fall 1499 20 beyond (asked_at sheet sloping 1499 20 beyond)
rear_on_it = bound past_a_fall sloping 1499 beyond sloping_tracked (inl refl) refl

left_behind : Reason sheet tenfold past_a_fall 1500 20 → ⊥
left_behind r = let may : MayBrake (tenfold.verdict (asked_at sheet sloping 1500 20 beyond)) 1500 2000 = only_that past_a_fall sloping 1500 beyond sloping_tracked refl refl refl r in omega (arith, may)

-- No target left.
abbrev ended : History
ended = one_target ++ accepted_entry (withdraw 7) Free ∷ []

ended_tracked : Tracks sheet ended sloped
ended_tracked = tracks_step sheet tenfold one_target made tracked (withdraw 7)

-- A ceiling of 30 from the place 100 on: the state after it.
abbrev under : State
under = record { track = record { sections = empty 64; targets = empty 32; ceilings = record { items = record { place = 100; speed = 30 } ∷ []; room = 47 } }; phase = Free; clear = false }

under_tracked : Tracks sheet one_ceiling under
under_tracked = tracks_step sheet tenfold [] opened (tracks_start sheet full_capacity) (ceiling_from 100 30)

abbrev the_ceiling : SpeedCeiling
the_ceiling = record { place = 100; speed = 30 }

-- Where that ceiling alone stands, it holds from its place on.
holds : (h : History) (s : State) → Tracks sheet h s → s.track.ceilings.items ≡ the_ceiling ∷ [] → CeilingHolds h 100 the_ceiling
holds h s k e = record {
  stands = k.ceilings.stands the_ceiling (rw e (inl refl));
  begun = omega arith;
  last = λ d a l. elim (rw e at (k.ceilings.listed d a)) [ inl same ↦ subst (λ (x : SpeedCeiling). x.place ≤ 100) (sym same) (omega arith) | inr none ↦ absurd none ];
}

-- A reason for that ceiling: it has begun, and the speed is more than 100 above it.
for_the_ceiling : (p v : ℕ) → v ≤ 500 → Reason sheet tenfold one_ceiling p v → (100 ≤ p) × (130 < v)
for_the_ceiling p v up r =
    let w = only_a_ceiling one_ceiling under p v under_tracked refl up r in
    elim (under_tracked.ceilings.listed w.0 w.1.stands) [
      | inl same ↦ subst (λ (x : SpeedCeiling). (x.place ≤ p) × FarAbove v x) same (w.1.begun, w.2)
      | inr none ↦ absurd none
    ]

-- That ceiling lifted.
abbrev free_again : History
free_again = one_ceiling ++ accepted_entry (lift 100) Free ∷ []

free_tracked : Tracks sheet free_again opened
free_tracked = tracks_step sheet tenfold one_ceiling under under_tracked (lift 100)

-- The brake is on for that ceiling.
abbrev held_down : History
held_down = one_ceiling ++ accepted_entry (sample 100 131) Emergency ∷ []

held_tracked : Tracks sheet held_down (record under { phase = Emergency })
held_tracked = tracks_sampled sheet one_ceiling under under_tracked 100 131 Emergency (Ok None)

pub ruled_out : RuledOut
ruled_out = record {
  too_fast = λ k. let l : Lines sheet tenfold [] (accepted_entry (sample 0 501) Free) = k [] _ [] refl in off (l.in_time.too_fast 0 501 (refl, tt) (lit< tt));
  too_near = λ k. let l : Lines sheet tenfold one_target (accepted_entry (sample 790 20) Warning) = k one_target _ [] refl in
      warned (l.in_time.too_near 790 20 (refl, tt) (lit≤ tt) goal _ near (lit≤ tt));
  for_nothing = λ k. no_reason [] opened 0 500 (tracks_start sheet full_capacity) refl refl (lit≤ tt) (reason [] 0 500 off k);
  too_early = λ k. early (reason one_target 699 20 off k);
  unasked = λ k. let l : Lines sheet tenfold (accepted_entry (sample 0 501) Emergency ∷ []) (accepted_entry (sample 0 20) Free) = k (_ ∷ []) _ [] refl in
      grind arith;
  too_soon = λ k. let w = justified [] 0 501 k in omega (arith, w.0);
  not_yet = λ k. yet (justified braked 740 20 k);
  unknown_grade = λ k. let l : Lines sheet tenfold lone (accepted_entry (sample 0 20) Free) = k lone _ [] refl in off (l.in_time.too_near 0 20 (refl, tt) (lit≤ tt) goal _ steep tt);
  under_the_rear = λ k. let l : Lines sheet tenfold past_a_fall (accepted_entry (sample 1499 20) Free) = k past_a_fall _ [] refl in
      off (l.in_time.too_near 1499 20 (refl, tt) (lit≤ tt) beyond _ rear_on_it tt);
  behind_the_rear = λ k. left_behind (reason past_a_fall 1500 20 off k);
  withdrawn = λ k. no_reason ended sloped 790 20 ended_tracked refl refl (lit≤ tt) (reason ended 790 20 off k);
  far_above = λ k. let l : Lines sheet tenfold one_ceiling (accepted_entry (sample 100 131) Warning) = k one_ceiling _ [] refl in
      warned (l.in_time.too_far_above 100 131 (refl, tt) the_ceiling (holds one_ceiling under under_tracked refl) (lit< tt));
  near_above = λ k. let w = for_the_ceiling 100 130 (lit≤ tt) (reason one_ceiling 100 130 off k) in omega (arith, w.1);
  before_it = λ k. let w = for_the_ceiling 99 131 (lit≤ tt) (reason one_ceiling 99 131 off k) in omega (arith, w.0);
  lifted = λ k. no_reason free_again opened 100 131 free_tracked refl refl (lit≤ tt) (reason free_again 100 131 off k);
  still_above = λ k. let w = (justified held_down 100 31 k).2 the_ceiling (holds held_down _ held_tracked refl) in omega (arith, w);
  no_sample = λ k. let l : Lines sheet tenfold [] (accepted_entry (slope 0 (pos 4)) Emergency) = k [] _ [] refl in let w = l.for_a_reason off refl in grind arith;
}
