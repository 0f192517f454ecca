use Rattle.std.proofs.Common.{◌≡◌, length}
use Rattle.descriptions.specs.Reading.{rows_read}
use Rattle.descriptions.proofs.ReadingProgress.{Progress}
use Rattle.descriptions.proofs.description.Description.read_rows.Given as goal

abbrev pub invariant-loop-index : goal.invariant-loop-index
invariant-loop-index g l =
    Progress l.self.layout (rows_read l.self g.row.N) g.row.N l.fn.rest.text.now l.fn.rest.at (length l.yielded) l.here.at l.values
    × (l.here.text ≡ l.fn.rest.text)
