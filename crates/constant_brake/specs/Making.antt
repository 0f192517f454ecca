-- What a maker's numbers give: the brake with them, or the first refusal that is due.
use Rattle.std.specs.Prelude.{◌≡◌, true, false, Ok, Err, Result}
use Rattle.sheet.specs.declared.values.Values.{Values}
use Rattle.constant_brake.specs.Ranges.{deceleration_fits, reaction_fits, top_fits}
use Rattle.constant_brake.specs.declared.brake.ConstantBrake.{ConstantBrake}
use Rattle.constant_brake.specs.declared.brake_data.BrakeData.{BrakeData}
use Rattle.constant_brake.specs.declared.refusal.Refusal.{Refusal}
use Rattle.constant_brake.specs.declared.refusal.Refusal.TheVariants.{DecelerationOutOfRange, ReactionTooLong, TopSpeedTooHigh}

-- When a refusal is due: each is asked only where those before it are not due.
abbrev pub RefusalDue : BrakeData → Refusal → Type 0
RefusalDue d DecelerationOutOfRange = deceleration_fits d.deceleration ≡ false
RefusalDue d ReactionTooLong = (deceleration_fits d.deceleration ≡ true) × (reaction_fits d.reaction ≡ false)
RefusalDue d TopSpeedTooHigh = (deceleration_fits d.deceleration ≡ true) × (reaction_fits d.reaction ≡ true) × (top_fits d.top.tenths ≡ false)

-- Every number is in its range.
pub record Fits (d : BrakeData) : Type 0 where
  pub deceleration : deceleration_fits d.deceleration ≡ true
  pub reaction : reaction_fits d.reaction ≡ true
  pub top : top_fits d.top.tenths ≡ true

-- The brake has the maker's numbers and the sheet's two times.
pub record HasNumbers (d : BrakeData) (v : Values) (b : ConstantBrake) : Type 0 where
  pub stated : b.stated ≡ d
  pub warning : b.lead.warning.tenths ≡ v.tw
  pub hysteresis : b.lead.hysteresis.tenths ≡ v.ti

abbrev pub MakesBrake : BrakeData → Values → Result ConstantBrake Refusal → Type 0
MakesBrake d v (Ok b) = Fits d × HasNumbers d v b
MakesBrake d v (Err e) = RefusalDue d e
