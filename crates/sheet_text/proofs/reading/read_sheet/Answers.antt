use Rattle.sheet_text.proofs.Acceptance.{one_sheet, taken, once}
use Rattle.sheet_text.proofs.reading.read_sheet.Goals as goal

pub returns-clause-exactly : goal.returns-clause-exactly
returns-clause-exactly c = taken c.args.text.now c.read_draft.result c.read_draft.ensures

pub returns-clause-only : goal.returns-clause-only
returns-clause-only c = one_sheet c.args.text.now

pub returns-clause-once : goal.returns-clause-once
returns-clause-once c = once c.args.text.now
