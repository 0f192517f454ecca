-- What reading rows answers: the values that stand there, or the first question with a no.
use Rattle.std.specs.Prelude.{◌≡◌, ℕ, ◌+◌, ◌<◌, true, false, ◌⊎◌, List, [], ◌∷◌, length, drop, take, replicate, ℤ, pos, Some, None, Ok, Err, Option, Result, decimal, get_or}
use Rattle.std.specs.Fmt.{signed_decimal}
use Rattle.numerals.specs.Numerals.{IsDigitCount}
use Rattle.numerals.specs.Taking.{signed_bytes}
use Rattle.descriptions.specs.Fitting.{has_form, fits}
use Rattle.descriptions.specs.Keys.{HasKey}
use Rattle.descriptions.specs.Layouts.{PartAt, HasNoPart, none_fault, line_byte, row_byte}
use Rattle.descriptions.specs.Rows.{Kind, PlainRow, plain_rows, word, number, signed, value_text, row_text}
use Rattle.descriptions.specs.declared.description.Description.{Description}
use Rattle.descriptions.specs.declared.faults.TextFault.TheVariants.{NoLineFeed, OtherKey, BadForm}
use Rattle.descriptions.specs.declared.faults.ValueFault.{ValueFault}
use Rattle.descriptions.specs.declared.faults.ValueFault.TheVariants.{Text, OutOfRange}
use Rattle.descriptions.specs.declared.field.Field.{Field}
use Rattle.descriptions.specs.declared.field.Field.TheVariants.{Word as WordField, Number as NumberField, Signed as SignedField}
use Rattle.descriptions.specs.declared.layout.Layout.{Layout}
use Rattle.descriptions.specs.declared.value.Value.{Value}
use Rattle.descriptions.specs.declared.value.Value.TheVariants.{Word as WordValue, Number as NumberValue}

-- The field of a kind that bytes are, beginning at a byte.
abbrev pub IsField : Kind → List ℕ → (byte : ℕ) → Field → Type 0
IsField (word ws) bytes byte (WordField i s) = (i < length ws) × (bytes ≡ get_or ws i []) × (s.bytes.now ≡ bytes) × (s.byte ≡ byte)
IsField (word ws) bytes byte (NumberField d b) = ⊥
IsField (word ws) bytes byte (SignedField d b) = ⊥
IsField (number r) bytes byte (WordField i s) = ⊥
IsField (number r) bytes byte (NumberField d b) = (d.bytes.now ≡ bytes) × IsDigitCount r.max_digits (length bytes) × (b ≡ byte)
IsField (number r) bytes byte (SignedField d b) = ⊥
IsField (signed r) bytes byte (WordField i s) = ⊥
IsField (signed r) bytes byte (NumberField d b) = ⊥
IsField (signed r) bytes byte (SignedField d b) = (signed_bytes d ≡ bytes) × IsDigitCount r.max_digits (length d.digits.bytes.now) × (b ≡ byte)

-- The bytes are the text of a value of this form.
abbrev pub HasForm : Kind → List ℕ → Type 0
HasForm k bytes = (v : Value) × (has_form k v ≡ true) × (bytes ≡ value_text k v)

abbrev pub FieldFound : Kind → List ℕ → (byte : ℕ) → Option Field → Type 0
FieldFound k bytes byte (Some f) = IsField k bytes byte f
FieldFound k bytes byte None = HasForm k bytes → ⊥

-- The value that a field writes.
abbrev pub IsValueOf : Field → Value → Type 0
IsValueOf (WordField i s) v = v ≡ WordValue i
IsValueOf (NumberField d b) v = (n : ℕ) × (v ≡ NumberValue (pos n)) × (d.bytes.now ≡ decimal n)
IsValueOf (SignedField d b) v = (z : ℤ) × (v ≡ NumberValue z) × (signed_bytes d ≡ signed_decimal z)

-- The byte of the text that its value begins at.
abbrev pub byte_of : Field → ℕ
byte_of (WordField i s) = s.byte
byte_of (NumberField d b) = b
byte_of (SignedField d b) = b

-- What a part of a text answers where a row is due: its value, or the first question with a no. `line` is the first byte of its line, `byte` its own.
abbrev pub PartAnswers : PlainRow → (range_number : ℕ) → (part : List ℕ) (line byte : ℕ) → Result Value ValueFault → Type 0
PartAnswers r n part line byte (Ok v) = (fits r.kind v ≡ true) × (part ≡ row_text r v)
PartAnswers r n part line byte (Err (Text (NoLineFeed b))) = ⊥
PartAnswers r n part line byte (Err (Text (OtherKey b))) = (b ≡ line) × ((value : List ℕ) → HasKey r.key part value → ⊥)
PartAnswers r n part line byte (Err (Text (BadForm b))) = (b ≡ byte + length r.key + 1) × ((value : List ℕ) × HasKey r.key part value × (HasForm r.kind value → ⊥))
PartAnswers r n part line byte (Err (OutOfRange m b)) =
    (m ≡ n) × (b ≡ byte + length r.key + 1) × ((v : Value) × (has_form r.kind v ≡ true) × (fits r.kind v ≡ false) × (part ≡ row_text r v))

-- From a byte of a text on stands the row with this value, and the next row begins at another byte.
abbrev pub RowStands : Layout → PlainRow → Value → (text : List ℕ) (at next : ℕ) → Type 0
RowStands l r v text at next = (fits r.kind v ≡ true) × PartAt l text at (row_text r v) next

-- The row that is due at a byte of a text has this fault.
abbrev pub RowFault : Layout → (range_number : ℕ) → PlainRow → (text : List ℕ) (at : ℕ) → ValueFault → Type 0
RowFault l n r text at f =
    (HasNoPart l text at × (f ≡ Text (none_fault l at)))
    ⊎ ((part : List ℕ) × (next : ℕ) × PartAt l text at part next × PartAnswers r n part (line_byte l at) (row_byte l at) (Err f))

abbrev pub RowAnswers : Layout → (range_number : ℕ) → PlainRow → (text : List ℕ) (at : ℕ) → Result (Value × ℕ) ValueFault → Type 0
RowAnswers l n r text at (Ok x) = RowStands l r x.0 text at x.1
RowAnswers l n r text at (Err f) = RowFault l n r text at f

-- From a byte of a text on stand the rows with these values, up to another byte.
abbrev pub RowsStand : Layout → List PlainRow → List Value → (text : List ℕ) (at next : ℕ) → Type 0
RowsStand l [] [] text at next = at ≡ next
RowsStand l [] (v ∷ vs) text at next = ⊥
RowsStand l (r ∷ rs) [] text at next = ⊥
RowsStand l (r ∷ rs) (v ∷ vs) text at next = (behind : ℕ) × RowStands l r v text at behind × RowsStand l rs vs text behind next

-- One of the rows that are due from a byte of a text on has this fault, and those before it stand there.
abbrev pub RowsStop : Layout → (range_number : ℕ) → List PlainRow → (text : List ℕ) (at : ℕ) → ValueFault → Type 0
RowsStop l n [] text at f = ⊥
RowsStop l n (r ∷ rs) text at f = RowFault l n r text at f ⊎ ((v : Value) × (next : ℕ) × RowStands l r v text at next × RowsStop l n rs text next f)

-- What reading rows answers, with the byte behind them as the next one; where it stops, it has not moved on.
abbrev pub RowsAnswer : Layout → (range_number : ℕ) → List PlainRow → (text : List ℕ) (at next : ℕ) → Result (List Value) ValueFault → Type 0
RowsAnswer l n rows text at next (Ok vs) = RowsStand l rows vs text at next
RowsAnswer l n rows text at next (Err f) = RowsStop l n rows text at f × (next ≡ at)

-- The rows that are read into so many values: as many as there are of both.
abbrev pub rows_read : Description → (count : ℕ) → List PlainRow
rows_read d count = take count (plain_rows d.rows.now)

-- The values of those rows; the memory for more values is blank.
abbrev pub ReadAnswers : Description → (count : ℕ) → (text : List ℕ) (at next : ℕ) → Result (List Value) ValueFault → Type 0
ReadAnswers d count text at next (Ok vs) =
    RowsAnswer d.layout d.range_number (rows_read d count) text at next (Ok (take (length d.rows.now) vs))
    × (drop (length d.rows.now) vs ≡ drop (length d.rows.now) (replicate count (NumberValue (pos 0))))
ReadAnswers d count text at next (Err f) = RowsAnswer d.layout d.range_number (rows_read d count) text at next (Err f)
