-- A text begins with that of a sheet exactly where the sheet's lines stand in front of it.
use Rattle.std.proofs.Common.{◌≡◌, ℕ, ◌+◌, true, List, ◌++◌, length, take, drop, Some, None, Option, IsSome, sym, refl, ap, ◌∙◌, subst, arith}
use Rattle.std.proofs.lemmas.List.{take_all}
use Rattle.descriptions.proofs.TextStanding.{text_from_stands, stands_from_text}
use Rattle.descriptions.specs.Laws.{TextStands, is_described, is_plain, are_words, all_plain, all_differ, is_none_of, is_same, has_room, value_room, longest}
use Rattle.descriptions.specs.Layouts.{rows_text}
use Rattle.descriptions.specs.Fitting.{all_fit}
use Rattle.descriptions.specs.Reading.{RowsStand, RowsStop}
use Rattle.descriptions.specs.declared.faults.ValueFault.{ValueFault}
use Rattle.descriptions.specs.declared.value.Value.{Value}
use Rattle.sheet.specs.Lines.{sheet_lines, list_of}
use Rattle.sheet.specs.Lists.{ValuesMade}
use Rattle.sheet.specs.Ranges.{in_ranges}
use Rattle.sheet.specs.declared.values.Values.{Values}
use Rattle.sheet_text.specs.Sheets.{sheet_layout, range_number, written_sheet, Fronts, Stops}

-- the lines of a sheet can be told apart
pub described : is_described sheet_layout sheet_lines ≡ true
unfolding is_described is_plain are_words all_plain all_differ is_none_of is_same has_room value_room longest
described = refl

from_zero : (n m : ℕ) → n ≡ 0 + m → n ≡ m
from_zero n m e = omega (arith, e)

to_zero : (n m : ℕ) → n ≡ m → n ≡ 0 + m
to_zero n m e = omega (arith, e)

-- values that stand in front of a text are those of a sheet
pub fronts : (text : List ℕ) (list : List Value) (v : Values) (next : ℕ) → TextStands sheet_layout sheet_lines list text 0 next → list_of v ≡ list → Fronts text v next
unfolding written_sheet in_ranges
fronts text list v next stands e = record {
  ranged = ap (all_fit sheet_lines) e ∙ stands.fit;
  front = stands.text_is ∙ ap (λ (vs : List Value). rows_text sheet_layout sheet_lines vs ++ drop next text) (sym e);
  ends = from_zero next (length (rows_text sheet_layout sheet_lines list)) stands.ends ∙ ap (λ (vs : List Value). length (rows_text sheet_layout sheet_lines vs)) (sym e);
}

pub stand : (text : List ℕ) (v : Values) (next : ℕ) → Fronts text v next → RowsStand sheet_layout sheet_lines (list_of v) text 0 next
unfolding written_sheet in_ranges
stand text v next f = stands_from_text sheet_layout sheet_lines (list_of v) text 0 next described (record { fit = f.ranged; text_is = f.front; ends = to_zero next (length (written_sheet v)) f.ends }) tt

-- the lines of a text that is read from its first byte
pub stop_from : (text : List ℕ) (at : ℕ) (f : ValueFault) → RowsStop sheet_layout range_number sheet_lines text at f → at ≡ 0 → Stops text f
unfolding Stops
stop_from text at f stops e = subst (λ (n : ℕ). RowsStop sheet_layout range_number sheet_lines text n f) e stops

pub stands_from : (text : List ℕ) (at next : ℕ) (list : List Value) → RowsStand sheet_layout sheet_lines (take 12 list) text at next → length list ≡ 12 → at ≡ 0 → TextStands sheet_layout sheet_lines list text 0 next
stands_from text at next list stands size e =
    let here = subst (λ (n : ℕ). RowsStand sheet_layout sheet_lines (take 12 list) text n next) e stands in
    text_from_stands sheet_layout sheet_lines list text 0 next (subst (λ (vs : List Value). RowsStand sheet_layout sheet_lines vs text 0 next) (take_all 12 list (omega (arith, size))) here)

-- values that stand in a text make a sheet
pub sheet_made : (list : List Value) (r : Option Values) → ValuesMade list r → all_fit sheet_lines list ≡ true → IsSome r
sheet_made list (Some v) made fit = refl
sheet_made list None made fit = sym made ∙ fit

pub made_of : (list : List Value) (r : Option Values) (v : Values) → ValuesMade list r → r ≡ Some v → list_of v ≡ list
made_of list r v made e = (subst (ValuesMade list) e made).1
