use Rattle.call_text.proofs.CallAnswers.{made}
use Rattle.call_text.proofs.reading.read_line.Goals as goal

pub returns : goal.returns
returns c = made c.args.text.now c.read_kind_line-line.result.next c.read_kind_line-line.result.found c.map.result c.read_kind_line-line.ensures.answers c.map.ensures.cases
