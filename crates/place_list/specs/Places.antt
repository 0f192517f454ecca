-- The place of an item, as a number.
use Rattle.std.specs.Prelude.{ℕ}
use Rattle.place_list.specs.declared.placed.Placed.{Placed}

-- In mm.
abbrev pub place_of : {T : Type 0} → Placed T → ℕ
place_of x = x.place.millimetres
