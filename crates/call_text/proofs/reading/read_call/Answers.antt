use Rattle.call_text.proofs.CallAnswers.{taken, short, one_call, one_call_answer, call_goes_forward}
use Rattle.call_text.proofs.reading.read_call.Goals as goal

pub returns-clause-exactly : goal.returns-clause-exactly
returns-clause-exactly c = taken c.args.text.now c.read_line.result.call c.read_line.result.next c.read_line.ensures

pub returns-clause-short : goal.returns-clause-short
returns-clause-short c = short

pub returns-clause-only : goal.returns-clause-only
returns-clause-only c = one_call

pub returns-clause-once : goal.returns-clause-once
returns-clause-once c = one_call_answer c.args.text.now

pub returns-clause-goes_on : goal.returns-clause-goes_on
returns-clause-goes_on c = (call_goes_forward c.args.text.now c.read_line.result.call c.read_line.result.next c.read_line.ensures).1
