use Rattle.history.proofs.Runs.{step_agrees}
use Rattle.history.proofs.every_step_agrees.Goals as goal

pub returns : goal.returns
returns c = step_agrees
