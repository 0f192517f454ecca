-- What is written is read back.
use Rattle.numerals.proofs.RoundTrip.{written_is_read}
use Rattle.numerals.proofs.writing.write_number.Goals as goal

pub returns : goal.returns
returns c = record { written = c.write_fitting.ensures; read_back = written_is_read }
