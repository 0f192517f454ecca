-- The row stands in front of a line feed, or behind a space.
use Rattle.descriptions.proofs.Joining.{join}
use Rattle.descriptions.proofs.writer.Writer.row.Goals as goal

pub returns-in-Lines-clause-written : goal.returns-in-Lines-clause-written
returns-in-Lines-clause-written c = rw c.in-Lines.is (join c.keyed_value.ensures.written c.bytes.ensures.written)

pub returns-in-Fields-clause-written : goal.returns-in-Fields-clause-written
returns-in-Fields-clause-written c = rw c.in-Fields.is (join c.bytes-in-Fields.ensures.written c.keyed_value-in-Fields.ensures.written)
