-- What the brake keeps, over all numbers that a maker may state and all admissible sheets.
use Rattle.std.specs.Prelude.{◌≡◌, true}
use Rattle.braking.specs.Laws.{Lawful}
use Rattle.sheet.specs.Ranges.{admissible}
use Rattle.sheet.specs.declared.values.Values.{Values}
use Rattle.constant_brake.specs.Formulas.{meaning_of}
use Rattle.constant_brake.specs.Making.{Fits}
use Rattle.constant_brake.specs.declared.brake_data.BrakeData.{BrakeData}

abbrev pub ConstantBrakeKeepsTheLaws : Type 0
ConstantBrakeKeepsTheLaws = (d : BrakeData) (v : Values) → Fits d → admissible v ≡ true → Lawful (meaning_of d v.tw v.ti)
