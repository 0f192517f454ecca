-- The number, the byte and the layer of each fault of a sheet.
use Rattle.std.specs.Prelude.{ℕ}
use Rattle.descriptions.specs.Faults.{number_of_value, byte_of_value, layer_of_value}
use Rattle.descriptions.specs.declared.layer.Layer.{Layer}
use Rattle.descriptions.specs.declared.layer.Layer.TheVariants.{Sheet}
use Rattle.descriptions.specs.declared.report.Report.{Report}
use Rattle.sheet_text.specs.declared.faults.SheetFault.{SheetFault}
use Rattle.sheet_text.specs.declared.faults.SheetFault.TheVariants.{Value, LeftOver, GoodsBrake}

abbrev pub number : SheetFault → ℕ
number (Value f) = number_of_value f
number (LeftOver b) = 5
number GoodsBrake = 6

abbrev pub fault_byte : SheetFault → ℕ
fault_byte (Value f) = byte_of_value f
fault_byte (LeftOver b) = b
fault_byte GoodsBrake = 0

abbrev pub layer_of : SheetFault → Layer
layer_of (Value f) = layer_of_value f
layer_of (LeftOver b) = Sheet
layer_of GoodsBrake = Sheet

abbrev pub report_of : SheetFault → Report
report_of f = record { number = number f; byte = fault_byte f; layer = layer_of f }
