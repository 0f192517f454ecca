use Rattle.descriptions.specs.Reading.{rows_read}
use Rattle.descriptions.proofs.Acceptance.{taken_exactly}
use Rattle.descriptions.proofs.OneAnswer.{one_answer}
use Rattle.descriptions.proofs.TextStanding.{read_is_text}
use Rattle.descriptions.proofs.description.Description.read.Goals as goal

pub returns-clause-text : goal.returns-clause-text
returns-clause-text g c = read_is_text c.args.self.now.layout (rows_read c.args.self.now g.row.N) c.args.rest.now.text.now c.args.rest.now.at

pub returns-clause-exactly : goal.returns-clause-exactly
returns-clause-exactly g c = taken_exactly c.args.self.now.layout c.args.self.now.range_number (rows_read c.args.self.now g.row.N) c.args.rest.now.text.now c.args.rest.now.at

pub returns-clause-once : goal.returns-clause-once
returns-clause-once g c = one_answer c.args.self.now.layout c.args.self.now.range_number (rows_read c.args.self.now g.row.N) c.args.rest.now.text.now c.args.rest.now.at
