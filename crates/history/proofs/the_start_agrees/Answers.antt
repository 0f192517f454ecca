use Rattle.history.proofs.Runs.{start_agrees}
use Rattle.history.proofs.the_start_agrees.Goals as goal

pub returns : goal.returns
returns c = start_agrees
