use Rattle.std.proofs.Common.{sym}
use Rattle.std.proofs.lemmas.Result.{err_from_is_err_and}
use Rattle.braking.specs.Answers.{question_of}
use Rattle.stopping.proofs.Given.{steps_given}
use Rattle.models.specs.Formulas.{top}
use Rattle.models.specs.Meanings.{meaning_of, stop_for}
use Rattle.models.proofs.Uncut.{never_cut}
use Rattle.models.proofs.rules_model.RulesModel.steps.Goals as goal

pub returns-in_err-approach : goal.returns-in_err-approach
returns-in_err-approach g c =
    let name = g.R.Rules.name in
    let sheet = c.args.self.now.sheet in
    let p = err_from_is_err_and c.from_residual.result c.from_residual.ensures.1 in
    record {
      steps = rw (p.1, p.2) (c.in_err-approach.ensures (meaning_of name sheet.values) (sym c.top_speed.ensures));
      uncut = never_cut name sheet.values sheet.valid;
    }

pub returns : goal.returns
returns g c =
    let name = g.R.Rules.name in
    let sheet = c.args.self.now.sheet in
    let asked = c.in_ok-approach.ensures (meaning_of name sheet.values) (sym c.top_speed.ensures) in
    record {
      steps = steps_given (top name sheet.values.regime) (stop_for name sheet.values) (question_of c.args.question) c.in_ok-approach.approach c.stop.result c.steps.result asked c.stop.ensures c.steps.ensures.steps;
      uncut = never_cut name sheet.values sheet.valid;
    }
