use Rattle.history.proofs.Runs.{one_ceiling}
use Rattle.history.proofs.every_place_has_one_ceiling_at_most.Goals as goal

pub returns : goal.returns
returns c = one_ceiling
