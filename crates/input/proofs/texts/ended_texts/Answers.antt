use Rattle.input.proofs.EndedParts.{with_last}
use Rattle.input.proofs.texts.ended_texts.Goals as goal

pub returns : goal.returns
returns c = with_last c.args.end c.args.bytes.now
