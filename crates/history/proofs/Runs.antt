-- Every step keeps that a history keeps the lines and agrees with the state; so every run keeps the lines, by induction over its calls.
use Rattle.std.proofs.Common.{◌≡◌, List, [], ◌∷◌, ◌++◌, refl, sym, ap, subst, append_assoc, inl, inr}
use Rattle.std.proofs.lemmas.List.{append-nil}
use Rattle.sheet.specs.declared.values.Values.{Values}
use Rattle.braking.specs.Laws.{Lawful}
use Rattle.braking.specs.Meaning.{Meaning}
use Rattle.calls.specs.declared.call.Call.{Call}
use Rattle.calls.specs.declared.record.Record.{Record}
use Rattle.history.specs.Agrees.{Agrees}
use Rattle.history.specs.History.{History}
use Rattle.history.specs.Lines.{HasOneCeilingAtMost, HasOneGrade, Lines, KeepsTheLines}
use Rattle.history.specs.State.{empty_track, State, Valid, start}
use Rattle.history.specs.Step.{step}
use Rattle.history.specs.Runs.{entry_of, run, state_after}
use Rattle.history.specs.Theorem.{EveryRunKeepsTheLines, EveryStretchHasOneGrade, EveryStepAgrees, EveryPlaceHasOneCeilingAtMost, TheStartAgrees}
use Rattle.history.proofs.Memory.{remembers}
use Rattle.history.proofs.Splits.{nil_split, not_true, split_push}
use Rattle.history.proofs.Steps.{good_step}
use Rattle.history.proofs.Tracked.{Tracks}
use Rattle.history.proofs.Tracks.{tracks_start, tracks_step, at_is, at_one, stretch_is, stretch_one, ahead_is, ahead_one, one_ceiling_there}
use Rattle.history.proofs.Validity.{step_valid}

keeps_none : (sheet : Values) (m : Meaning) → KeepsTheLines sheet m []
keeps_none sheet m before e after p = absurd (nil_split before e after p)

-- One more entry at which they hold.
keeps_push : (sheet : Values) (m : Meaning) (h : History) (r : Record) → KeepsTheLines sheet m h → Lines sheet m h r → KeepsTheLines sheet m (h ++ r ∷ [])
keeps_push sheet m h r k l before e after p =
    elim (split_push h before r e after p) [
      | inl w ↦ subst (λ (b : History). Lines sheet m b e) w.0 (subst (λ (x : Record). Lines sheet m h x) w.1 l)
      | inr w ↦ k before e w.0 w.2
    ]

tracks_of : (sheet : Values) (m : Meaning) (h : History) (s : State) → Valid s.track → Agrees sheet m h s → Tracks sheet h s
tracks_of sheet m h s v a = record {
  phase = a.phase;
  sections = a.sections;
  targets = a.targets;
  ceilings = a.ceilings;
  valid = v;
}

one_grade_there : (sheet : Values) (h : History) (s : State) → Tracks sheet h s → HasOneGrade sheet h
one_grade_there sheet h s k = record {
  at_place = λ p. (_, at_is sheet h s k p _ refl, λ g a. sym (at_one sheet h s k p g a));
  of_stretch = λ a b forward. (_, stretch_is sheet h s k a b forward, λ g w. stretch_one sheet h s k a b forward g w);
  ahead = λ front place. (_, ahead_is sheet h s k front place, λ g a. ahead_one sheet h s k front place g a);
}

pub start_agrees : TheStartAgrees
start_agrees sheet m capacity =
    let k = tracks_start sheet capacity in
    record {
      lines = keeps_none sheet m;
      phase = refl;
      sections = k.sections;
      targets = k.targets;
      ceilings = k.ceilings;
      one_grade = one_grade_there sheet [] (start (empty_track capacity)) k;
      one_ceiling = one_ceiling_there sheet [] (start (empty_track capacity)) k;
      remembered = λ w. absurd (nil_split w.before w.entry w.last.after w.last.split);
      answered = not_true;
      justified = not_true;
    }

pub step_agrees : EveryStepAgrees
step_agrees sheet m law h s v a c =
    let k = tracks_of sheet m h s v a in
    let k' = tracks_step sheet m h s k c in
    let good = good_step sheet m law h s k a.justified c in
    let mine = remembers sheet m h s a.remembered a.answered c in
    record {
      lines = keeps_push sheet m h (entry_of c (step sheet m s c)) a.lines good.0;
      phase = k'.phase;
      sections = k'.sections;
      targets = k'.targets;
      ceilings = k'.ceilings;
      one_grade = one_grade_there sheet (h ++ entry_of c (step sheet m s c) ∷ []) (step sheet m s c).state k';
      one_ceiling = one_ceiling_there sheet (h ++ entry_of c (step sheet m s c) ∷ []) (step sheet m s c).state k';
      remembered = mine.remembered;
      answered = mine.answered;
      justified = good.1;
    }

-- A run that goes on from a history that agrees.
run_agrees : (sheet : Values) (m : Meaning) → Lawful m → (cs : List Call) (h : History) (s : State) → Valid s.track → Agrees sheet m h s →
    Agrees sheet m (h ++ run sheet m s cs) (state_after sheet m s cs)
run_agrees sheet m law [] h s v a = rw append-nil a
run_agrees sheet m law (c ∷ cs) h s v a =
    let e : Record = entry_of c (step sheet m s c) in
    let next : State = (step sheet m s c).state in
    subst (λ (l : History). Agrees sheet m l (state_after sheet m next cs)) (append_assoc h (e ∷ []) (run sheet m next cs))
    (run_agrees sheet m law cs (h ++ e ∷ []) next (step_valid sheet m s v c) (step_agrees sheet m law h s v a c))

pub every_run : EveryRunKeepsTheLines
every_run sheet m law capacity calls = (run_agrees sheet m law calls [] (start (empty_track capacity)) (record { sections = refl; targets = refl; ceilings = refl }) (start_agrees sheet m capacity)).lines

-- What holds of every history that a state tracks holds before each entry of a run that goes on from h.
module _ (sheet : Values) (m : Meaning) (Holds : History → Type 0) (tracked : (h : History) (s : State) → Tracks sheet h s → Holds h) where
  at_each : (cs : List Call) (h : History) (s : State) → Tracks sheet h s →
      (before : History) (e : Record) (after : History) → run sheet m s cs ≡ before ++ e ∷ after → Holds (h ++ before)
  at_each [] h s k before e after p = absurd (nil_split before e after p)
  at_each (c ∷ cs) h s k [] e after p = rw append-nil (tracked h s k)
  at_each (c ∷ cs) h s k (b ∷ bs) e after p =
      let first : entry_of c (step sheet m s c) ≡ b = cc in
      let rest : run sheet m (step sheet m s c).state cs ≡ bs ++ e ∷ after = cc in
      let goes : Holds ((h ++ entry_of c (step sheet m s c) ∷ []) ++ bs) =
      at_each cs (h ++ entry_of c (step sheet m s c) ∷ []) (step sheet m s c).state (tracks_step sheet m h s k c) bs e after rest in
      subst (λ (x : Record). Holds (h ++ x ∷ bs)) first (subst Holds (append_assoc h (entry_of c (step sheet m s c) ∷ []) bs) goes)

pub one_grade : EveryStretchHasOneGrade
one_grade sheet m capacity calls = at_each sheet m (HasOneGrade sheet) (one_grade_there sheet) calls [] (start (empty_track capacity)) (tracks_start sheet capacity)

pub one_ceiling : EveryPlaceHasOneCeilingAtMost
one_ceiling sheet m capacity calls = at_each sheet m HasOneCeilingAtMost (one_ceiling_there sheet) calls [] (start (empty_track capacity)) (tracks_start sheet capacity)

pub run_push : (sheet : Values) (m : Meaning) (s : State) (cs : List Call) (c : Call) →
    run sheet m s (cs ++ c ∷ []) ≡ run sheet m s cs ++ entry_of c (step sheet m (state_after sheet m s cs) c) ∷ []
run_push sheet m s [] c = refl
run_push sheet m s (x ∷ xs) c = ap (λ (l : History). entry_of x (step sheet m s x) ∷ l) (run_push sheet m (step sheet m s x).state xs c)

pub state_push : (sheet : Values) (m : Meaning) (s : State) (cs : List Call) (c : Call) →
    state_after sheet m s (cs ++ c ∷ []) ≡ (step sheet m (state_after sheet m s cs) c).state
state_push sheet m s [] c = refl
state_push sheet m s (x ∷ xs) c = state_push sheet m (step sheet m s x).state xs c
