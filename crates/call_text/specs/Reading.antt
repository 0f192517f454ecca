-- What the readers of call lines answer.
use Rattle.std.specs.Prelude.{◌≡◌, ℕ, ◌<◌, List, length, drop, take, replicate, pos, Ok, Err, Result}
use Rattle.descriptions.specs.declared.faults.ValueFault.{ValueFault}
use Rattle.descriptions.specs.declared.value.Value.{Value}
use Rattle.descriptions.specs.declared.value.Value.TheVariants.{Number}
use Rattle.call_text.specs.KindLines.{HeadAt, IsUnknown, LineAnswers, KindLineAnswers}
use Rattle.call_text.specs.Kinds.{PlainCallKind, kind_at}
use Rattle.call_text.specs.declared.call_fault.CallFault.{CallFault}
use Rattle.call_text.specs.declared.kind_line.Found.{Found}

-- The kind that a line names, up to a byte, or that it names none.
abbrev pub KindAnswers : List PlainCallKind → (line : List ℕ) → (next : ℕ) → Result ℕ ValueFault → Type 0
KindAnswers kinds line next (Ok i) = (i < length kinds) × HeadAt line (kind_at kinds i) next
KindAnswers kinds line next (Err f) = IsUnknown kinds line f

-- The kind's number with the values of its fields; the memory for more fields is blank.
abbrev pub values_of : {count : ℕ} → List PlainCallKind → Found count → ℕ × List Value
values_of kinds f = (f.kind, take (length (kind_at kinds f.kind).fields) f.values)

abbrev pub IsBlankBehind : {count : ℕ} → List PlainCallKind → Found count → Type 0
IsBlankBehind {count} kinds f =
    drop (length (kind_at kinds f.kind).fields) f.values ≡ drop (length (kind_at kinds f.kind).fields) (replicate count (Number (pos 0)))

abbrev pub LineFound : {count : ℕ} → List PlainCallKind → (line : List ℕ) → Result (Found count) CallFault → Type 0
LineFound kinds line (Ok f) = LineAnswers kinds line (Ok (values_of kinds f)) × IsBlankBehind kinds f
LineFound kinds line (Err e) = LineAnswers kinds line (Err e)

abbrev pub TextFound : {count : ℕ} → List PlainCallKind → (text : List ℕ) → (next : ℕ) → Result (Found count) CallFault → Type 0
TextFound kinds text next (Ok f) = KindLineAnswers kinds text next (Ok (values_of kinds f)) × IsBlankBehind kinds f
TextFound kinds text next (Err e) = KindLineAnswers kinds text next (Err e)
