use Rattle.std.proofs.Common.{◌∙◌, ◌<◌, Ok, Err, ap, arith, length, sym}
use Rattle.std.proofs.lemmas.Bool.{eqb-false}
use Rattle.std.proofs.lemmas.List.{take_rest}
use Rattle.call_text.specs.Lines.{TextAnswers}
use Rattle.session.specs.Answers.{of_fault}
use Rattle.session.proofs.Turns.{turned_call, turned_fault}
use Rattle.session.proofs.answering.answer_lines.Goals as goal
use Rattle.session.proofs.answering.answer_lines.Goals.{in-Ok+else-calls-records, in-Err}

pub loop-line-preserved : goal.loop-line-preserved
loop-line-preserved g c =
    let inv = c.loop-line.invariant in
    let more = eqb-false (length c.loop-line.rest.now) 0 (sym c.loop-line-test.ensures) in
    let some : 0 < length c.loop-line.rest.now = omega arith in
    let room : c.loop-line.lines < length c.loop-line.shown = let fits = inv.lines_fit in omega arith in
    let goes = take_rest c.loop-line.rest.now c.read_call-line.result.next in
    elim c.match-line.branch [
      | in-Ok+else-calls-records w ↦
          let ans : TextAnswers c.loop-line.rest.now (Ok w.in-Ok.call) c.read_call-line.result.next = rw w.in-Ok.is at c.read_call-line.ensures.answers in
          let space : c.loop-line.calls < length c.loop-line.records = let fits = inv.calls_fit in let other = w.if-calls-records.false in omega arith in
          rw (w.mission-is, w.lists-is, w.records-is, w.calls-is, w.shown-is, goes)
          (turned_call g.M.BrakingModel.meaning c.args.mission.now c.loop-line.mission c.args.lists.now c.loop-line.lists c.args.text.now c.loop-line.rest.now c.loop-line.lines c.loop-line.calls c.args.records.now c.loop-line.records c.args.shown.now c.loop-line.shown
          inv room some c.read_call-line.result.next w.in-Ok.call w.apply-record.result w.from.result w.apply-record.new.self w.apply-record.new.lists
          ans space w.apply-record.ensures.call w.apply-record.ensures.phase w.apply-record.ensures.made w.from.ensures)
      | in-Err w ↦
          let ans : TextAnswers c.loop-line.rest.now (Err w.in-Err.fault) c.read_call-line.result.next = rw w.in-Err.is at c.read_call-line.ensures.answers in
          rw (w.mission-is, w.lists-is, w.records-is, w.calls-is, w.shown-is, goes)
          (turned_fault g.M.BrakingModel.meaning c.args.mission.now c.loop-line.mission c.args.lists.now c.loop-line.lists c.args.text.now c.loop-line.rest.now c.loop-line.lines c.loop-line.calls c.args.records.now c.loop-line.records c.args.shown.now c.loop-line.shown
          inv room some c.read_call-line.result.next w.in-Err.fault w.of_fault.result ans (w.of_fault.ensures ∙ ap (of_fault w.in-Err.fault) w.phase.ensures))
    ]
