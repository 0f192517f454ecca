use Rattle.sheet.specs.declared.words.Model.TheVariants.{Scmt}
use Rattle.models.specs.Lawfulness.{model_lawful}
use Rattle.models.proofs.laws.scmt_keeps_the_laws.Goals as goal

pub returns : goal.returns
returns c = λ v valid. model_lawful Scmt v valid
