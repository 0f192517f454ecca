-- What the lines of a text are read as, and the calls among them.
use Rattle.std.specs.Prelude.{◌≡◌, ℕ, List, [], ◌∷◌, drop, Result, ◌≢◌}
use Rattle.std.specs.List.{filter_map}
use Rattle.std.specs.Result.{result_ok}
use Rattle.calls.specs.declared.call.Call.{Call}
use Rattle.call_text.specs.Lines.{TextAnswers}
use Rattle.call_text.specs.declared.call_fault.CallFault.{CallFault}

-- A line is a call, or has a fault.
abbrev pub Line : Type 0
Line = Result Call CallFault

-- The first lines of the text are read as these, and this is left of it. No bytes are no line.
abbrev pub ReadsTo : (text : List ℕ) → List Line → (rest : List ℕ) → Type 0
ReadsTo text [] rest = text ≡ rest
ReadsTo text (line ∷ lines) rest = (text ≢ []) × ((next : ℕ) × TextAnswers text line next × ReadsTo (drop next text) lines rest)

-- The calls among the lines.
abbrev pub calls_of : List Line → List Call
calls_of lines = filter_map (λ (line : Line). result_ok line) lines
