-- The number, the byte and the layer of each fault of a row, and what is printed of a fault.
use Rattle.std.specs.Prelude.{ℕ, List, ◌++◌, codes, decimal}
use Rattle.descriptions.specs.declared.faults.TextFault.{TextFault}
use Rattle.descriptions.specs.declared.faults.TextFault.TheVariants.{NoLineFeed, OtherKey, BadForm}
use Rattle.descriptions.specs.declared.faults.ValueFault.{ValueFault}
use Rattle.descriptions.specs.declared.faults.ValueFault.TheVariants.{Text, OutOfRange}
use Rattle.descriptions.specs.declared.layer.Layer.{Layer}
use Rattle.descriptions.specs.declared.layer.Layer.TheVariants.{Text as TextLayer, Value as ValueLayer, Sheet as SheetLayer}
use Rattle.descriptions.specs.declared.report.Report.{Report}

-- The number of each fault of the text.
abbrev pub number_of_text : TextFault → ℕ
number_of_text (NoLineFeed b) = 1
number_of_text (OtherKey b) = 2
number_of_text (BadForm b) = 3

-- The byte that it is at.
abbrev pub byte_of_text : TextFault → ℕ
byte_of_text (NoLineFeed b) = b
byte_of_text (OtherKey b) = b
byte_of_text (BadForm b) = b

-- A value out of its range has the number of its description.
abbrev pub number_of_value : ValueFault → ℕ
number_of_value (Text f) = number_of_text f
number_of_value (OutOfRange n b) = n

-- The byte that a value's fault is at.
abbrev pub byte_of_value : ValueFault → ℕ
byte_of_value (Text f) = byte_of_text f
byte_of_value (OutOfRange n b) = b

-- A fault of the text is of the text's layer, whatever holds it.
abbrev pub layer_of_value : ValueFault → Layer
layer_of_value (Text f) = TextLayer
layer_of_value (OutOfRange n b) = ValueLayer

-- The word of each layer.
abbrev pub layer_word : Layer → List ℕ
layer_word TextLayer = codes "text"
layer_word ValueLayer = codes "value"
layer_word SheetLayer = codes "sheet"

-- What is printed of a fault.
abbrev pub report_text : Report → List ℕ
report_text r = codes "answer=" ++ (decimal r.number ++ (codes " byte=" ++ (decimal r.byte ++ (codes " layer=" ++ layer_word r.layer))))
