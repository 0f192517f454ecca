-- Each turn writes one more row, and at the end of the loop none is left.
use Rattle.std.proofs.Common.{◌∙◌}
use Rattle.std.proofs.lemmas.Slice.Zip.{Zip-more, either_empty_from_Zip}
use Rattle.descriptions.proofs.WritingProgress.{step, finish}
use Rattle.descriptions.proofs.writer.Writer.rows.Goals as goal

pub loop-row-preserved : goal.loop-row-preserved
loop-row-preserved c =
    let turn = Zip-more _ c.next.new.self _ (c.in-Some.row, c.in-Some.value) c.in-Some.is c.next.ensures.steps in
    let before = rw (turn.0, turn.1) at c.loop-row.invariant.written in
    record {
      written = step before c.row.ensures.written;
      same = c.row.ensures.same ∙ c.loop-row.invariant.same;
    }

pub returns-clause-written : goal.returns-clause-written
returns-clause-written c = finish c.loop-row.invariant.written (either_empty_from_Zip _ c.next.new.self _ c.in-None.is c.next.ensures.steps)
