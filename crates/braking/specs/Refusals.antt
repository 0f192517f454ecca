-- The number of each refusal of a question.
use Rattle.std.specs.Prelude.{ℕ, List, ◌++◌, codes, decimal}
use Rattle.braking.specs.declared.refusal.Refusal.{Refusal}
use Rattle.braking.specs.declared.refusal.Refusal.TheVariants.{TooFast, GradeOutOfLimits, NotBinding}

abbrev pub number : Refusal → ℕ
number TooFast = 8
number GradeOutOfLimits = 9
number NotBinding = 13

-- What is printed of a refusal.
abbrev pub refusal_text : Refusal → List ℕ
refusal_text r = codes "answer=" ++ decimal (number r)
