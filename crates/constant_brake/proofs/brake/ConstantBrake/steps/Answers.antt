use Rattle.std.proofs.Common.{sym}
use Rattle.std.proofs.lemmas.Result.{err_from_is_err_and}
use Rattle.braking.specs.Answers.{question_of}
use Rattle.stopping.specs.Laws.{StopsUncut}
use Rattle.stopping.proofs.Given.{steps_given}
use Rattle.constant_brake.specs.Brakes.{brake_stop, brake_meaning}
use Rattle.constant_brake.specs.Lawfulness.{stops_uncut}
use Rattle.constant_brake.specs.Plain.{Plain}
use Rattle.constant_brake.specs.declared.brake.ConstantBrake.{ConstantBrake}
use Rattle.constant_brake.proofs.Plainly.{plain}
use Rattle.constant_brake.proofs.brake.ConstantBrake.steps.Goals as goal

brake_plain : (b : ConstantBrake) → Plain b.stated b.lead.warning.tenths b.lead.hysteresis.tenths
brake_plain b = plain b.stated b.lead.warning.tenths b.lead.hysteresis.tenths b.not_weaker

brake_uncut : (b : ConstantBrake) → StopsUncut b.stated.top.tenths (brake_stop b)
brake_uncut b = stops_uncut b.stated b.lead.warning.tenths b.lead.hysteresis.tenths b.brief b.slow b.lead.warning.brief b.lead.hysteresis.brief

pub returns-in_err-approach : goal.returns-in_err-approach
returns-in_err-approach c =
    let b = c.args.self.now in
    let p = err_from_is_err_and c.from_residual.result c.from_residual.ensures.1 in
    record { steps = rw (p.1, p.2) (c.in_err-approach.ensures (brake_meaning b) (sym c.top_speed.ensures)); plain = brake_plain b; uncut = brake_uncut b }

pub returns : goal.returns
returns c =
    let b = c.args.self.now in
    let asked = c.in_ok-approach.ensures (brake_meaning b) (sym c.top_speed.ensures) in
    record {
      steps = steps_given b.stated.top.tenths (brake_stop b) (question_of c.args.question) c.in_ok-approach.approach c.stop.result c.steps.result asked c.stop.ensures c.steps.ensures.steps;
      plain = brake_plain b;
      uncut = brake_uncut b;
    }
