use Rattle.figures.proofs.Worked.{stated}
use Rattle.figures.proofs.sheet_a.Goals as goal

pub returns-clause-figures : goal.returns-clause-figures
returns-clause-figures c = stated
