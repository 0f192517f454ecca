-- The history that calls make, step by step.
use Rattle.std.specs.Prelude.{List, [], ◌∷◌}
use Rattle.sheet.specs.declared.values.Values.{Values}
use Rattle.braking.specs.Meaning.{Meaning}
use Rattle.calls.specs.declared.call.Call.{Call}
use Rattle.calls.specs.declared.record.Record.{Record}
use Rattle.history.specs.History.{History}
use Rattle.history.specs.State.{State}
use Rattle.history.specs.Step.{Stepped, step}

-- The entry of a call, by what the step answers and the phase after it.
abbrev pub entry_of : Call → Stepped → Record
entry_of c r = record { call = c; answer = r.answer; phase = r.state.phase }

-- The history that calls make from a state, and the state after them.
abbrev pub run : Values → Meaning → State → List Call → History
run sheet m s [] = []
run sheet m s (c ∷ cs) = entry_of c (step sheet m s c) ∷ run sheet m (step sheet m s c).state cs

abbrev pub state_after : Values → Meaning → State → List Call → State
state_after sheet m s [] = s
state_after sheet m s (c ∷ cs) = state_after sheet m (step sheet m s c).state cs
