use Rattle.models.specs.Formulas.{reaction_time}
use Rattle.models.proofs.rules_model.RulesModel.reaction_time.Goals as goal

pub returns : goal.returns
unfolding reaction_time
returns g c = cc
