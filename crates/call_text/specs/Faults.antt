-- The number, the byte and the layer of each fault of a call line.
use Rattle.std.specs.Prelude.{ℕ}
use Rattle.descriptions.specs.Faults.{number_of_value, byte_of_value, layer_of_value}
use Rattle.descriptions.specs.declared.layer.Layer.{Layer}
use Rattle.descriptions.specs.declared.layer.Layer.TheVariants.{Sheet}
use Rattle.descriptions.specs.declared.report.Report.{Report}
use Rattle.call_text.specs.declared.call_fault.CallFault.{CallFault}
use Rattle.call_text.specs.declared.call_fault.CallFault.TheVariants.{Value, LeftOver}

abbrev pub number : CallFault → ℕ
number (Value f) = number_of_value f
number (LeftOver b) = 5

-- Counted from the line's first byte.
abbrev pub fault_byte : CallFault → ℕ
fault_byte (Value f) = byte_of_value f
fault_byte (LeftOver b) = b

abbrev pub layer_of : CallFault → Layer
layer_of (Value f) = layer_of_value f
layer_of (LeftOver b) = Sheet

abbrev pub report_of : CallFault → Report
report_of f = record { number = number f; byte = fault_byte f; layer = layer_of f }
