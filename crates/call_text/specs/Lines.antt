-- What the first line of a text answers as a call, and where the next line begins.
use Rattle.std.specs.Prelude.{◌≡◌, ℕ, ◌⊎◌, List, ◌++◌, length, drop, Ok, Err, Result}
use Rattle.calls.specs.declared.call.Call.{Call}
use Rattle.call_text.specs.Calls.{call_kinds}
use Rattle.call_text.specs.CallTexts.{IsWritable, IsWithinWindow, written_call}
use Rattle.call_text.specs.KindLines.{IsFaulty, IsEndless}
use Rattle.call_text.specs.declared.call_fault.CallFault.{CallFault}

-- The text begins with the text of a call, and the next line behind it.
pub record IsCall (text : List ℕ) (c : Call) (next : ℕ) : Type 0 where
  pub writable : IsWritable c
  pub within : IsWithinWindow c
  pub text_is : text ≡ written_call c ++ drop next text
  pub ends : next ≡ length (written_call c)

-- What the first line of a text answers: the call whose text it is, or the first question with a no.
abbrev pub TextAnswers : (text : List ℕ) → Result Call CallFault → (next : ℕ) → Type 0
TextAnswers text (Ok c) next = IsCall text c next
TextAnswers text (Err f) next = IsFaulty call_kinds text f next ⊎ IsEndless call_kinds text f next

-- A text has one answer at most.
unfoldable pub OneAnswer : List ℕ → Type 0
OneAnswer text = (r s : Result Call CallFault) (m n : ℕ) → TextAnswers text r m → TextAnswers text s n → (r ≡ s) × (m ≡ n)
