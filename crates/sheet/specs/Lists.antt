-- What making a sheet from the values of its lines answers.
use Rattle.std.specs.Prelude.{◌≡◌, zero, suc, true, false, List, Some, None, Option}
use Rattle.descriptions.specs.Fitting.{all_fit}
use Rattle.descriptions.specs.declared.value.Value.{Value}
use Rattle.descriptions.specs.declared.value.Value.TheVariants.{Word, Number}
use Rattle.sheet.specs.Lines.{sheet_lines, list_of}
use Rattle.sheet.specs.Ranges.{in_ranges}
use Rattle.sheet.specs.declared.values.Values.{Values}

-- The first of two things for the first word, else the second.
abbrev pub choice_of : {X : Type 0} → Value → (first second : X) → X
choice_of (Word zero) first second = first
choice_of (Word (suc n)) first second = second
choice_of (Number z) first second = second

-- The sheet whose values these are, or nothing where they do not fit the lines.
abbrev pub ValuesMade : List Value → Option Values → Type 0
ValuesMade list (Some v) = (all_fit sheet_lines list ≡ true) × (list_of v ≡ list)
ValuesMade list None = all_fit sheet_lines list ≡ false

-- A sheet whose values these are, and fit the lines, is made and no other.
abbrev pub IsMadeBack : List Value → Option Values → Type 0
IsMadeBack list r = (v : Values) → in_ranges v ≡ true → list_of v ≡ list → r ≡ Some v
