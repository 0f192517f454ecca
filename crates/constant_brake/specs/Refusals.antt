-- The number of each refusal of a maker's brake.
use Rattle.std.specs.Prelude.{ℕ, List, ◌++◌, codes, decimal}
use Rattle.constant_brake.specs.declared.refusal.Refusal.{Refusal}
use Rattle.constant_brake.specs.declared.refusal.Refusal.TheVariants.{DecelerationOutOfRange, ReactionTooLong, TopSpeedTooHigh}

abbrev pub number : Refusal → ℕ
number DecelerationOutOfRange = 21
number ReactionTooLong = 22
number TopSpeedTooHigh = 23

-- What is printed of a refusal.
abbrev pub refusal_text : Refusal → List ℕ
refusal_text r = codes "answer=" ++ decimal (number r)
