-- The lines of a sheet's text, and its values as those of the lines.
use Rattle.std.specs.Prelude.{ℕ, List, [], ◌∷◌, pos, codes}
use Rattle.descriptions.specs.Rows.{PlainRow, word, number}
use Rattle.descriptions.specs.declared.value.Value.{Value}
use Rattle.descriptions.specs.declared.value.Value.TheVariants.{Word, Number}
use Rattle.sheet.specs.declared.values.Values.{Values}
use Rattle.sheet.specs.declared.words.Model.{Model}
use Rattle.sheet.specs.declared.words.Model.TheVariants.{Scmt, Etcs}
use Rattle.sheet.specs.declared.words.Regime.{Regime}
use Rattle.sheet.specs.declared.words.Regime.TheVariants.{Operation, Trial}
use Rattle.sheet.specs.declared.words.Service.{Service}
use Rattle.sheet.specs.declared.words.Service.TheVariants.{Passenger, Goods}
use Rattle.sheet.specs.declared.words.LengthChoice.{LengthChoice}
use Rattle.sheet.specs.declared.words.LengthChoice.TheVariants.{Fixed, Train}

-- A line whose value is one of some words.
abbrev pub word_line : (key : List ℕ) → List (List ℕ) → PlainRow
word_line key ws = record { key = key; kind = word ws }

-- A line whose value is a number of at most four digits, from a least to a greatest, in steps.
abbrev pub number_line : (key : List ℕ) → (least greatest step : ℕ) → PlainRow
number_line key least greatest step = record { key = key; kind = number (record { max_digits = 4; least = pos least; greatest = pos greatest; step = step }) }

-- The twelve lines in their order.
abbrev pub sheet_lines : List PlainRow
sheet_lines =
    word_line (codes "model") (codes "scmt" ∷ codes "etcs" ∷ [])
    ∷ word_line (codes "regime") (codes "E" ∷ codes "P" ∷ [])
    ∷ word_line (codes "train") (codes "V" ∷ codes "M" ∷ [])
    ∷ word_line (codes "brake") (codes "V" ∷ codes "M" ∷ [])
    ∷ number_line (codes "ep") 0 1 1
    ∷ number_line (codes "lambda") 45 160 5
    ∷ number_line (codes "length") 0 1000 1
    ∷ word_line (codes "lfren") (codes "LD" ∷ codes "LT" ∷ [])
    ∷ number_line (codes "kr") 30 150 1
    ∷ number_line (codes "tw") 0 100 1
    ∷ number_line (codes "ti") 0 100 1
    ∷ number_line (codes "eps") 0 20 1
    ∷ []

-- Which of its line's words a value is.
abbrev pub model_number : Model → ℕ
model_number Scmt = 0
model_number Etcs = 1

abbrev pub regime_number : Regime → ℕ
regime_number Operation = 0
regime_number Trial = 1

abbrev pub service_number : Service → ℕ
service_number Passenger = 0
service_number Goods = 1

abbrev pub length_number : LengthChoice → ℕ
length_number Fixed = 0
length_number Train = 1

-- The values of a sheet, in the order of the lines.
abbrev pub list_of : Values → List Value
list_of v =
    Word (model_number v.model)
    ∷ Word (regime_number v.regime)
    ∷ Word (service_number v.train)
    ∷ Word (service_number v.brake)
    ∷ Number (pos v.ep)
    ∷ Number (pos v.lambda)
    ∷ Number (pos v.length)
    ∷ Word (length_number v.lfren)
    ∷ Number (pos v.kr)
    ∷ Number (pos v.tw)
    ∷ Number (pos v.ti)
    ∷ Number (pos v.eps)
    ∷ []
