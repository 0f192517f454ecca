-- The name and the values of the model that a sheet names.
use Rattle.sheet.specs.declared.words.Model.{Model}
use Rattle.sheet.specs.declared.words.Model.TheVariants.{Scmt, Etcs}
use Rattle.sheet.specs.declared.values.Values.{Values}
use Rattle.models.specs.declared.sheet_model.SheetModel.{SheetModel}
use Rattle.models.specs.declared.sheet_model.SheetModel.TheVariants.{Scmt as AsScmt, Etcs as AsEtcs}

abbrev pub name_of : SheetModel → Model
name_of (AsScmt m) = Scmt
name_of (AsEtcs m) = Etcs

abbrev pub values_of : SheetModel → Values
values_of (AsScmt m) = m.sheet.values
values_of (AsEtcs m) = m.sheet.values
