use Rattle.history.proofs.Examples.{ruled_out, tenfold_lawful, worked}
use Rattle.history.proofs.worked_histories.Goals as goal

pub returns : goal.returns
returns c = record { lawful = tenfold_lawful; worked = worked; ruled_out = ruled_out }
