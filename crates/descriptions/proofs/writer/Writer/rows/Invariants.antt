-- Some of the rows are written, in the same memory.
use Rattle.std.proofs.Common.{◌≡◌}
use Rattle.std.specs.Iterator.Adapters.{zip_first, zip_second}
use Rattle.std.specs.Slice.Iter.{iter_rest}
use Rattle.descriptions.specs.Layouts.{rows_text}
use Rattle.descriptions.specs.Rows.{plain_rows}
use Rattle.descriptions.proofs.WritingProgress.{Progress}
use Rattle.descriptions.proofs.writer.Writer.rows.Given as goal

abbrev pub invariant-loop-row : goal.invariant-loop-row
invariant-loop-row l =
    let rows = iter_rest (zip_first l.row-iterator) in
    let values = iter_rest (zip_second l.row-iterator) in
    let whole = rows_text l.layout (plain_rows l.rows) l.values in
    record {
      written : Progress l.layout rows values whole l.fn.self.out.now l.fn.self.at l.self.out.now l.self.at;
      same : l.self.out.ghost_name ≡ l.fn.self.out.ghost_name;
    }
