-- What admitting answers to a draft with the values v.
use Rattle.std.specs.Prelude.{◌≡◌, true, false, Ok, Err, Result}
use Rattle.sheet.specs.declared.values.Values.{Values}
use Rattle.sheet.specs.declared.admitted.Admitted.{Admitted}
use Rattle.sheet.specs.declared.draft.Rejected.{Rejected}
use Rattle.sheet.specs.declared.refusal.Refusal.{Refusal}
use Rattle.sheet.specs.declared.refusal.Refusal.TheVariants.{OutOfRange, GoodsBrake}
use Rattle.sheet.specs.Ranges.{in_ranges, brake_allowed}

-- When a refusal is due: the ranges are asked first, then the brake.
abbrev pub RefusalDue : Values → Refusal → Type 0
RefusalDue v OutOfRange = in_ranges v ≡ false
RefusalDue v GoodsBrake = (in_ranges v ≡ true) × (brake_allowed v.train v.brake ≡ false)

abbrev pub AdmitAnswers : Values → Result Admitted Rejected → Type 0
AdmitAnswers v (Ok a) = (in_ranges v ≡ true) × (brake_allowed v.train v.brake ≡ true) × (a.values ≡ v)
AdmitAnswers v (Err e) = RefusalDue v e.refusal × (e.draft.values ≡ v)
