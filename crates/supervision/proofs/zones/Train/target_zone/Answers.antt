use Rattle.std.proofs.Common.{◌∙◌, ap}
use Rattle.units.specs.declared.quantities.Distance.{Distance}
use Rattle.history.specs.Zones.{least_grade}
use Rattle.supervision.specs.Items.{sections_in, target_of}
use Rattle.supervision.proofs.Verdicts.{judged_target}
use Rattle.supervision.proofs.zones.Train.target_zone.Goals as goal

pub returns : goal.returns
returns g c =
    let xs = sections_in c.args.self.now.sections.items.now in
    let rear = c.args.self.now.position.rear.millimetres in
    let front = c.args.self.now.position.front.millimetres in
    let grade = c.least_grade.ensures
    ∙ (ap (λ (d : Distance). least_grade xs d.millimetres c.stretch_to-stretch.result.end.millimetres) c.stretch_to-stretch.ensures.start
    ∙ ap (least_grade xs rear) c.stretch_to-stretch.ensures.end) in
    c.judged_zone.ensures
    ∙ judged_target (g.M.BrakingModel.meaning c.args.self.now.model.now) xs rear front c.args.self.now.speed.tenths (target_of c.args.target.now)
    c.least_grade.result.thousandths c.answer.result grade c.answer.ensures c.args.self.now.slow c.args.self.now.sections.valid
