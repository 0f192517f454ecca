-- What is proved of every call and of every run.
use Rattle.std.specs.Prelude.{List, [], ◌∷◌, ◌++◌}
use Rattle.sheet.specs.declared.values.Values.{Values}
use Rattle.braking.specs.Laws.{Lawful}
use Rattle.braking.specs.Meaning.{Meaning}
use Rattle.calls.specs.declared.call.Call.{Call}
use Rattle.history.specs.Agrees.{Agrees}
use Rattle.history.specs.History.{History}
use Rattle.history.specs.Lines.{GivesOneCeilingAtMost, GivesOneGrade, KeepsTheLines}
use Rattle.history.specs.Runs.{entry_of, run}
use Rattle.history.specs.State.{Capacity, empty_track, State, Valid, start}
use Rattle.history.specs.Step.{step}

-- Whatever is called, the history of a mission over a lawful model keeps the three lines.
abbrev pub EveryRunKeepsTheLines : Type 0
EveryRunKeepsTheLines = (sheet : Values) (m : Meaning) → Lawful m → (capacity : Capacity) (calls : List Call) →
    KeepsTheLines sheet m (run sheet m (start (empty_track capacity)) calls)

-- In the history of a run every place and every stretch has one grade; so has every stretch ahead, from the rear of the sheet's train on, and every binding target has one question.
abbrev pub EveryStretchHasOneGrade : Type 0
EveryStretchHasOneGrade = (sheet : Values) (m : Meaning) (capacity : Capacity) (calls : List Call) →
    GivesOneGrade sheet (run sheet m (start (empty_track capacity)) calls)

-- In the history of a run at every place one ceiling holds, or none has begun.
abbrev pub EveryPlaceHasOneCeilingAtMost : Type 0
EveryPlaceHasOneCeilingAtMost = (sheet : Values) (m : Meaning) (capacity : Capacity) (calls : List Call) →
    GivesOneCeilingAtMost (run sheet m (start (empty_track capacity)) calls)

-- A mission as opened agrees with the empty history.
abbrev pub TheStartAgrees : Type 0
TheStartAgrees = (sheet : Values) (m : Meaning) (capacity : Capacity) → Agrees sheet m [] (start (empty_track capacity))

-- Whatever history agrees with a state, with the call behind it, it agrees with the state after the call.
abbrev pub EveryStepAgrees : Type 0
EveryStepAgrees = (sheet : Values) (m : Meaning) → Lawful m → (h : History) (s : State) → Valid s.track → Agrees sheet m h s → (c : Call) →
    Agrees sheet m (h ++ entry_of c (step sheet m s c) ∷ []) (step sheet m s c).state

-- A step keeps what the type of the lists holds.
abbrev pub EveryStepKeepsValid : Type 0
EveryStepKeepsValid = (sheet : Values) (m : Meaning) (s : State) → Valid s.track → (c : Call) → Valid (step sheet m s c).state.track
