-- The stops and the meaning of a brake: by the numbers that its maker states and the two times that it has.
use Rattle.braking.specs.Meaning.{Meaning, Question}
use Rattle.stopping.specs.Stops.{Stop}
use Rattle.constant_brake.specs.Formulas.{stop_for, meaning_of}
use Rattle.constant_brake.specs.declared.brake.ConstantBrake.{ConstantBrake}

abbrev pub brake_stop : ConstantBrake → Question → Stop
brake_stop b = stop_for b.stated b.lead.warning.tenths b.lead.hysteresis.tenths

abbrev pub brake_meaning : ConstantBrake → Meaning
brake_meaning b = meaning_of b.stated b.lead.warning.tenths b.lead.hysteresis.tenths
