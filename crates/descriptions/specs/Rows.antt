-- The rows of a description, apart from where they lie in memory, and the text of a row with a value.
use Rattle.std.specs.Prelude.{ℕ, List, [], ◌∷◌, ◌++◌, map, get_or}
use Rattle.std.specs.Fmt.{signed_decimal}
use Rattle.descriptions.specs.Keys.{equals}
use Rattle.descriptions.specs.declared.number_range.NumberRange.{NumberRange}
use Rattle.descriptions.specs.declared.row.Row.{Row}
use Rattle.descriptions.specs.declared.row.ValueKind.{ValueKind}
use Rattle.descriptions.specs.declared.row.ValueKind.TheVariants.{Word, Number, Signed}
use Rattle.descriptions.specs.declared.value.Value.{Value}
use Rattle.descriptions.specs.declared.value.Value.TheVariants.{Word as WordValue, Number as NumberValue}

-- What a value may be: one of these words, a number from 0 on, or a number of either sign.
pub data Kind : Type 0 where
  word : List (List ℕ) → Kind
  number : NumberRange → Kind
  signed : NumberRange → Kind

-- A key, and what its value may be.
pub record PlainRow : Type 0 where
  pub key : List ℕ
  pub kind : Kind

abbrev pub plain_kind : ValueKind → Kind
plain_kind (Word ws) = word (map (λ w. w.now) ws.now)
plain_kind (Number r) = number r
plain_kind (Signed r) = signed r

abbrev pub plain_row : Row → PlainRow
plain_row r = record { key = r.key.now; kind = plain_kind r.kind }

abbrev pub plain_rows : List Row → List PlainRow
plain_rows rs = map (λ r. plain_row r) rs

-- The text of a value: the word with its number, or the digits of a number with a minus in front of one below 0.
abbrev pub value_text : Kind → Value → List ℕ
value_text (word ws) (WordValue i) = get_or ws i []
value_text (word ws) (NumberValue z) = []
value_text (number r) (WordValue i) = []
value_text (number r) (NumberValue z) = signed_decimal z
value_text (signed r) (WordValue i) = []
value_text (signed r) (NumberValue z) = signed_decimal z

-- A row: key, equals sign, value.
abbrev pub row_text : PlainRow → Value → List ℕ
row_text r v = r.key ++ equals ∷ value_text r.kind v
