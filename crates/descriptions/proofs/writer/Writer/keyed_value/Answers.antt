-- Key, equals sign and value are written one behind the other.
use Rattle.descriptions.proofs.Joining.{join}
use Rattle.descriptions.proofs.writer.Writer.keyed_value.Goals as goal

pub returns-clause-written : goal.returns-clause-written
returns-clause-written c = join c.bytes.ensures.written (join c.bytes-2.ensures.written c.value.ensures.written)
