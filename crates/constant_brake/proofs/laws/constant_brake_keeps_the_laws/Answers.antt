use Rattle.std.proofs.lemmas.Bool.{leb-true}
use Rattle.sheet.proofs.Limits.{limits}
use Rattle.units.specs.declared.limits.TheConstants.{MAX_SPEED}
use Rattle.constant_brake.specs.Lawfulness.{brake_lawful}
use Rattle.constant_brake.proofs.laws.constant_brake_keeps_the_laws.Goals as goal

pub returns : goal.returns
returns c = λ d v fits valid.
    brake_lawful d v.tw v.ti (leb-true d.reaction 200 fits.reaction) (leb-true d.top.tenths MAX_SPEED.tenths fits.top) (limits v valid).tw (limits v valid).ti
