use Rattle.supervision.proofs.Promises.{law_of}
use Rattle.supervision.proofs.mission.Mission.apply.Goals as goal

pub returns-clause-law : goal.returns-clause-law
returns-clause-law g c = law_of g.M.BrakingModel.meaning g.met.M.BrakingModel.lawful c.make-answer.ensures
