use Rattle.descriptions.proofs.Acceptance.{written_is_read}
use Rattle.descriptions.proofs.description.Description.write.Goals as goal

pub returns-clause-read_back : goal.returns-clause-read_back
returns-clause-read_back c = written_is_read c.args.self.now
