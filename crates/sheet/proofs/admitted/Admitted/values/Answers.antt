use Rattle.sheet.proofs.Limits.{limits}
use Rattle.sheet.proofs.admitted.Admitted.values.Goals as goal

pub returns-clause-limits : goal.returns-clause-limits
returns-clause-limits c = limits c.args.self.now.values c.args.self.now.valid
