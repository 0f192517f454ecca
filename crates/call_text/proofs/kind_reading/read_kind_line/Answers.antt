use Rattle.call_text.specs.Kinds.{plain_kinds}
use Rattle.call_text.proofs.KindAcceptance.{one_line, taken_exactly, found_goes_forward}
use Rattle.call_text.proofs.KindAnswers.{one_answer}
use Rattle.call_text.proofs.kind_reading.read_kind_line.Goals as goal

pub returns-clause-exactly : goal.returns-clause-exactly
returns-clause-exactly g c = taken_exactly (plain_kinds g.row.N c.args.kinds.now) c.args.text.now

pub returns-clause-only : goal.returns-clause-only
returns-clause-only g c = one_line (plain_kinds g.row.N c.args.kinds.now)

pub returns-clause-once : goal.returns-clause-once
returns-clause-once g c = one_answer (plain_kinds g.row.N c.args.kinds.now) c.args.text.now

pub returns-clause-forward : goal.returns-clause-forward
returns-clause-forward g c = found_goes_forward (plain_kinds g.row.N c.args.kinds.now) c.args.text.now c.read_text.result.next c.read_text.result.found c.read_text.ensures
