-- The kinds of call can be told apart, and a call is made of its parts.
use Rattle.std.proofs.Common.{◌≡◌, ℕ, zero, suc, true, List, get_or, ℤ, pos, Ok, Err, Result, unsigned_abs, sym, refl, ap, ◌∙◌}
use Rattle.calls.specs.declared.call.Call.{Call}
use Rattle.calls.specs.declared.call.Call.TheVariants.{Slope, Announce, Withdraw, Ceiling, Lift, Sample, Release}
use Rattle.descriptions.specs.Laws.{is_plain, is_same, is_none_of, all_differ, are_words, has_room, is_described}
use Rattle.descriptions.specs.declared.value.Value.{Value}
use Rattle.descriptions.specs.declared.value.Value.TheVariants.{Number}
use Rattle.descriptions.specs.Values.{whole_of}
use Rattle.call_text.specs.Calls.{call_kinds, parts_of}
use Rattle.call_text.specs.KindLines.{are_kinds, is_table}
use Rattle.call_text.specs.declared.call_fault.CallFault.{CallFault}

pub calls_told_apart : is_table call_kinds ≡ true
unfolding is_table are_kinds is_described is_plain are_words has_room all_differ is_none_of is_same
calls_told_apart = refl

number_at : List Value → ℕ → ℤ
number_at vs i = whole_of (get_or vs i (Number (pos 0)))

size_at : List Value → ℕ → ℕ
size_at vs i = unsigned_abs (number_at vs i)

-- the call with these parts
rebuilt : ℕ → List Value → Call
rebuilt zero vs = Slope (record { millimetres = size_at vs 0 }) (record { thousandths = number_at vs 1 })
rebuilt (suc zero) vs = Announce (size_at vs 0) (record { millimetres = size_at vs 1 }) (record { millimetres = size_at vs 2 }) (record { tenths = size_at vs 3 })
rebuilt (suc (suc zero)) vs = Withdraw (size_at vs 0)
rebuilt (suc (suc (suc zero))) vs = Ceiling (record { millimetres = size_at vs 0 }) (record { tenths = size_at vs 1 })
rebuilt (suc (suc (suc (suc zero)))) vs = Lift (record { millimetres = size_at vs 0 })
rebuilt (suc (suc (suc (suc (suc zero))))) vs = Sample (record { millimetres = size_at vs 0 }) (record { tenths = size_at vs 1 })
rebuilt (suc (suc (suc (suc (suc (suc i)))))) vs = Release

is_rebuilt : (c : Call) → rebuilt (parts_of c).0 (parts_of c).1 ≡ c
unfolding rebuilt size_at number_at
is_rebuilt (Slope place grade) = refl
is_rebuilt (Announce n point distance speed) = refl
is_rebuilt (Withdraw n) = refl
is_rebuilt (Ceiling place speed) = refl
is_rebuilt (Lift place) = refl
is_rebuilt (Sample place speed) = refl
is_rebuilt Release = refl

pub same_call : (c d : Call) → (parts_of c).0 ≡ (parts_of d).0 → (parts_of c).1 ≡ (parts_of d).1 → c ≡ d
same_call c d number values =
    let first = is_rebuilt c in
    let second = is_rebuilt d in
    cc

-- an answer with a call's parts in place of the call
abbrev pub answer_in_kinds : Result Call CallFault → Result (ℕ × List Value) CallFault
answer_in_kinds (Ok c) = Ok (parts_of c)
answer_in_kinds (Err f) = Err f

answer_rebuilt : Result (ℕ × List Value) CallFault → Result Call CallFault
answer_rebuilt (Ok x) = Ok (rebuilt x.0 x.1)
answer_rebuilt (Err f) = Err f

is_answer_rebuilt : (r : Result Call CallFault) → answer_rebuilt (answer_in_kinds r) ≡ r
unfolding answer_rebuilt
is_answer_rebuilt (Ok c) = ap Ok (is_rebuilt c)
is_answer_rebuilt (Err f) = refl

pub same_answer : (r s : Result Call CallFault) → answer_in_kinds r ≡ answer_in_kinds s → r ≡ s
same_answer r s e = sym (is_answer_rebuilt r) ∙ (ap answer_rebuilt e ∙ is_answer_rebuilt s)
