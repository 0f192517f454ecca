-- The number of each refusal of a draft.
use Rattle.std.specs.Prelude.{ℕ, List, ◌++◌, codes, decimal}
use Rattle.sheet.specs.declared.refusal.Refusal.{Refusal}
use Rattle.sheet.specs.declared.refusal.Refusal.TheVariants.{OutOfRange, GoodsBrake}

abbrev pub number : Refusal → ℕ
number OutOfRange = 4
number GoodsBrake = 6

-- What is printed of a refusal.
abbrev pub refusal_text : Refusal → List ℕ
refusal_text r = codes "answer=" ++ decimal (number r)
