use Rattle.sheet.specs.declared.words.Model.TheVariants.{Etcs}
use Rattle.models.specs.Lawfulness.{model_lawful}
use Rattle.models.proofs.laws.etcs_keeps_the_laws.Goals as goal

pub returns : goal.returns
returns c = λ v valid. model_lawful Etcs v valid
