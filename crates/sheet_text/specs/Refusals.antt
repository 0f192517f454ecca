-- The number of the refusal to write a sheet.
use Rattle.std.specs.Prelude.{ℕ}
use Rattle.sheet_text.specs.declared.refusal.Refusal.{Refusal}
use Rattle.sheet_text.specs.declared.refusal.Refusal.TheVariants.{NoRoom}

abbrev pub number : Refusal → ℕ
number NoRoom = 11
