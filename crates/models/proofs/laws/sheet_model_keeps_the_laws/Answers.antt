use Rattle.models.specs.Lawfulness.{model_lawful}
use Rattle.models.proofs.laws.sheet_model_keeps_the_laws.Goals as goal

pub returns : goal.returns
returns c = λ v valid. model_lawful v.model v valid
