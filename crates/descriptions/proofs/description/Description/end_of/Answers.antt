-- Each turn adds the length of one more row, and at the end of the loop no text is left.
use Rattle.std.proofs.Common.{ap, length, arith}
use Rattle.std.proofs.lemmas.Slice.Zip.{Zip-more, either_empty_from_Zip}
use Rattle.std.specs.Iterator.Adapters.{zip_first, zip_second}
use Rattle.std.specs.Slice.Iter.{iter_rest}
use Rattle.descriptions.proofs.RowsLeft.{none_left, next_length}
use Rattle.descriptions.proofs.description.Description.end_of.Goals as goal

pub loop-row-preserved : goal.loop-row-preserved
loop-row-preserved c =
    let turn = Zip-more _ c.next.new.self _ (c.in-Some.row, c.in-Some.value) c.in-Some.is c.next.ensures.steps in
    let before = rw (turn.0, turn.1) at c.loop-row.invariant in
    let more = next_length c.args.self.now.layout c.in-Some.row.now (iter_rest (zip_first c.next.new.self)) c.in-Some.value.now (iter_rest (zip_second c.next.new.self)) in
    record {
      in_range = omega arith;
      same_end = omega arith;
    }

pub returns : goal.returns
returns c =
    let left = none_left c.args.self.now.layout _ _ (either_empty_from_Zip _ c.next.new.self _ c.in-None.is c.next.ensures.steps) in
    let none = ap length left in
    omega arith
