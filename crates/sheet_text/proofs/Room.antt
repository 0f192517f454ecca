-- The text of an admissible sheet is not longer than the memory asked for.
use Rattle.std.proofs.Common.{◌≡◌, ℕ, ◌≤◌, true, length, refl, arith}
use Rattle.std.proofs.lemmas.Bool.{and_parts}
use Rattle.descriptions.proofs.TextRoom.{text_room, within_room}
use Rattle.descriptions.specs.Laws.{value_room, longest}
use Rattle.sheet.specs.Lines.{sheet_lines, list_of}
use Rattle.sheet.specs.Ranges.{in_ranges, admissible}
use Rattle.sheet.specs.declared.values.Values.{Values}
use Rattle.sheet_text.specs.Sheets.{sheet_layout, written_sheet}
use Rattle.sheet_text.specs.Writing.{room}

enough : text_room sheet_lines ≡ 110
unfolding text_room value_room longest
enough = refl

within : (n m : ℕ) → n ≤ m → m ≡ 110 → n ≤ room
within n m h e = omega (arith, h, e)

pub short : (v : Values) → admissible v ≡ true → length (written_sheet v) ≤ room
unfolding written_sheet in_ranges
short v valid = within _ (text_room sheet_lines) (within_room sheet_layout sheet_lines (list_of v) (and_parts (in_ranges v) _ valid).0) enough
