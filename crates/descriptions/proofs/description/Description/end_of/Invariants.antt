-- The end so far and the text of the rows that are left lead to one end.
use Rattle.std.proofs.Common.{◌≡◌, ◌+◌, ◌-◌, ◌^◌, ◌<◌, length, min}
use Rattle.std.specs.Iterator.Adapters.{zip_first, zip_second}
use Rattle.std.specs.Slice.Iter.{iter_rest}
use Rattle.descriptions.specs.Layouts.{rows_text}
use Rattle.descriptions.specs.Rows.{plain_rows}
use Rattle.descriptions.specs.Writing.{text_of}
use Rattle.descriptions.proofs.description.Description.end_of.Given as goal

abbrev pub invariant-loop-row : goal.invariant-loop-row
invariant-loop-row l =
    let left = rows_text l.fn.self.layout (plain_rows (iter_rest (zip_first l.row-iterator))) (iter_rest (zip_second l.row-iterator)) in
    record {
      in_range : l.end < 2 ^ 64;
      same_end : min (l.end + length left) (2 ^ 64 - 1) ≡ min (l.fn.at + length (text_of l.fn.self l.fn.values)) (2 ^ 64 - 1);
    }
