-- What a text answers as a call, it answers as the line of the call's kind with its values; so the laws of all tables of kinds are laws of calls.
use Rattle.std.proofs.Common.{◌≡◌, ℕ, ◌+◌, ◌<◌, List, [], ◌∷◌, ◌++◌, length, drop, Ok, Err, Result, MatchResult, IsOkAnd, sym, subst, ◌∙◌, append_assoc, arith, length-append}
use Rattle.calls.specs.declared.call.Call.{Call}
use Rattle.descriptions.specs.Lines.{feed}
use Rattle.descriptions.specs.declared.value.Value.{Value}
use Rattle.call_text.specs.Calls.{call_kinds, parts_of}
use Rattle.call_text.specs.CallTexts.{IsWritable, IsWithinWindow, written_call, OneCall}
use Rattle.call_text.specs.KindLines.{line_window, IsKindLine, KindLineAnswers, TakenExactly, HasOneLine, HasOneAnswer, GoesForward}
use Rattle.call_text.specs.Kinds.{kind_text}
use Rattle.call_text.specs.Lines.{IsCall, TextAnswers, OneAnswer}
use Rattle.call_text.specs.Reading.{TextFound, values_of}
use Rattle.call_text.specs.declared.call_fault.CallFault.{CallFault}
use Rattle.call_text.specs.declared.kind_line.Found.{Found}
use Rattle.call_text.proofs.CallParts.{calls_told_apart, answer_in_kinds, same_answer, same_call}
use Rattle.call_text.proofs.KindAcceptance.{one_line, taken_exactly, goes_forward}
use Rattle.call_text.proofs.KindAnswers.{one_answer}
use Rattle.call_text.proofs.LineRoom.{within_line_room, calls_room}

-- the line of a call without its line feed
abbrev call_line : Call → List ℕ
call_line c = kind_text call_kinds (parts_of c).0 (parts_of c).1

-- the line of a call with its line feed, and more behind it
line_then : (c : Call) (rest : List ℕ) → written_call c ++ rest ≡ call_line c ++ feed ∷ rest
unfolding written_call
line_then c rest = append_assoc (call_line c) (feed ∷ []) rest

written_length : (c : Call) → length (written_call c) ≡ length (call_line c) + 1
unfolding written_call
written_length c = length-append (call_line c) (feed ∷ [])

-- the line of every call is within the window
pub short : (c : Call) → IsWritable c → IsWithinWindow c
unfolding IsWritable
short c writable = omega (arith, written_length c, within_line_room call_kinds (parts_of c).0 (parts_of c).1 writable, calls_room)

within_line : (c : Call) → IsWithinWindow c → length (call_line c) < line_window
within_line c within = omega (arith, written_length c)

kind_line_from_call : (text : List ℕ) (c : Call) (next : ℕ) → IsCall text c next → IsKindLine call_kinds text (parts_of c).0 (parts_of c).1 next
unfolding IsWritable
kind_line_from_call text c next a = record {
  of_kind = a.writable;
  within = within_line c a.within;
  text_is = a.text_is ∙ line_then c (drop next text);
  ends = a.ends ∙ written_length c;
}

call_from_kind_line : (text : List ℕ) (c : Call) (next : ℕ) → IsKindLine call_kinds text (parts_of c).0 (parts_of c).1 next → IsCall text c next
unfolding IsWritable
call_from_kind_line text c next k = record {
  writable = k.of_kind;
  within = omega (arith, k.within, written_length c);
  text_is = k.text_is ∙ sym (line_then c (drop next text));
  ends = k.ends ∙ sym (written_length c);
}

answers_in_kinds : (text : List ℕ) (r : Result Call CallFault) (next : ℕ) → TextAnswers text r next → KindLineAnswers call_kinds text next (answer_in_kinds r)
answers_in_kinds text (Ok c) next a = kind_line_from_call text c next a
answers_in_kinds text (Err f) next a = a

-- a text that begins with that of a call is taken as that call
pub taken : (text : List ℕ) (r : Result Call CallFault) (next : ℕ) → TextAnswers text r next → (c : Call) (rest : List ℕ) → IsWritable c → text ≡ written_call c ++ rest → r ≡ Ok c
unfolding IsWritable TakenExactly
taken text r next a c rest writable e =
    same_answer r (Ok c)
    (taken_exactly call_kinds text calls_told_apart (parts_of c).0 (parts_of c).1 rest (answer_in_kinds r) next writable (within_line c (short c writable)) (e ∙ line_then c rest) (answers_in_kinds text r next a))

pub one_call : OneCall
unfolding OneCall IsWritable HasOneLine
one_call c d x y writable too e =
    let same = one_line call_kinds calls_told_apart (parts_of c).0 (parts_of d).0 (parts_of c).1 (parts_of d).1 x y writable too (sym (line_then c x) ∙ (e ∙ line_then d y)) in
    same_call c d same.0 same.1

pub one_call_answer : (text : List ℕ) → OneAnswer text
unfolding OneAnswer HasOneAnswer
one_call_answer text r s m n a b =
    let same = one_answer call_kinds text calls_told_apart (answer_in_kinds r) (answer_in_kinds s) m n (answers_in_kinds text r m a) (answers_in_kinds text s n b) in
    (same_answer r s same.0, same.1)

-- a line of a kind that is made into the call with its values is answered as that call, and a fault as it is
pub made : (text : List ℕ) (next : ℕ) (r : Result (Found 4) CallFault) (s : Result Call CallFault) → TextFound call_kinds text next r
    → MatchResult r (λ f. IsOkAnd s (λ c. parts_of c ≡ values_of call_kinds f)) (λ e. s ≡ Err e) → TextAnswers text s next
made text next (Ok f) (Ok c) found is =
    call_from_kind_line text c next (subst (λ (x : ℕ × List Value). KindLineAnswers call_kinds text next (Ok x)) (sym is) found.0)
made text next (Ok f) (Err e) found is = absurd is
made text next (Err e) s found is = subst (λ (a : Result Call CallFault). TextAnswers text a next) (sym is) found

-- the next line begins within the text, and behind its first byte if there is one
pub call_goes_forward : (text : List ℕ) (r : Result Call CallFault) (next : ℕ) → TextAnswers text r next → GoesForward text next
call_goes_forward text r next a = goes_forward call_kinds text next (answer_in_kinds r) (answers_in_kinds text r next a)
