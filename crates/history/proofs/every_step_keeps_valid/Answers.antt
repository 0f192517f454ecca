use Rattle.history.proofs.Validity.{step_valid}
use Rattle.history.proofs.every_step_keeps_valid.Goals as goal

pub returns : goal.returns
returns c = step_valid
