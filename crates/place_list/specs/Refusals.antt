-- The number of each refusal.
use Rattle.std.specs.Prelude.{ℕ}
use Rattle.place_list.specs.declared.refusal.Refusal.{Refusal}
use Rattle.place_list.specs.declared.refusal.Refusal.TheVariants.{Full}

abbrev pub number : Refusal → ℕ
number Full = 11
