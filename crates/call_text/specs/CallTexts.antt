-- The one text of a call.
use Rattle.std.specs.Prelude.{◌≡◌, ℕ, ◌≤◌, List, [], ◌∷◌, ◌++◌, length}
use Rattle.calls.specs.declared.call.Call.{Call}
use Rattle.descriptions.specs.Lines.{feed}
use Rattle.call_text.specs.Calls.{call_kinds, parts_of}
use Rattle.call_text.specs.KindLines.{line_window}
use Rattle.call_text.specs.Kinds.{kind_text, IsOfKind}

-- The line of a call with its line feed.
unfoldable pub written_call : Call → List ℕ
written_call c = kind_text call_kinds (parts_of c).0 (parts_of c).1 ++ feed ∷ []

-- A call that has a text: its numbers have at most ten digits, and a target's is at most 65,535.
unfoldable pub IsWritable : Call → Type 0
IsWritable c = IsOfKind call_kinds (parts_of c).0 (parts_of c).1

-- Its line is within the window.
abbrev pub IsWithinWindow : Call → Type 0
IsWithinWindow c = length (written_call c) ≤ line_window

-- No text begins with the texts of two calls.
unfoldable pub OneCall : Type 0
OneCall = (c d : Call) (x y : List ℕ) → IsWritable c → IsWritable d → written_call c ++ x ≡ written_call d ++ y → c ≡ d
