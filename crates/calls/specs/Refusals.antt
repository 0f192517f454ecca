-- The number of each refusal of a call.
use Rattle.std.specs.Prelude.{ℕ}
use Rattle.calls.specs.declared.refusal.Refusal.{Refusal}
use Rattle.calls.specs.declared.refusal.Refusal.TheVariants.{PlaceOutOfLimits, TooFast, GradeOutOfLimits, Conflict, Full, NotReleasable}

abbrev pub number : Refusal → ℕ
number PlaceOutOfLimits = 7
number TooFast = 8
number GradeOutOfLimits = 9
number Conflict = 10
number Full = 11
number NotReleasable = 12
