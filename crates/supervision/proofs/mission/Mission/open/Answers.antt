use Rattle.std.proofs.Common.{false, refl}
use Rattle.calls.specs.declared.phase.Phase.TheVariants.{Free}
use Rattle.supervision.specs.Lists.{capacity_of}
use Rattle.supervision.proofs.Promises.{opened_agrees}
use Rattle.supervision.proofs.mission.Mission.open.Goals as goal

pub returns-clause-law : goal.returns-clause-law
returns-clause-law g c =
    opened_agrees g.M.BrakingModel.meaning (record { model = c.args.model; sheet = c.args.sheet; phase = Free; clear = false }) c.new.result
    (capacity_of c.args.memory) refl refl c.new.ensures.empty
