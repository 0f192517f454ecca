use Rattle.std.proofs.Common.{length}
use Rattle.session.proofs.Turns.{Turned}
use Rattle.session.proofs.answering.answer_lines.Given as goal

abbrev pub invariant-loop-line : goal.invariant-loop-line
invariant-loop-line g l = Turned g.M.BrakingModel.meaning l.initial.mission l.mission l.initial.lists l.lists l.text l.rest l.lines l.calls l.initial.records l.records l.initial.shown l.shown

abbrev pub decreases-loop-line : goal.decreases-loop-line
decreases-loop-line g l = length l.rest
