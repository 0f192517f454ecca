-- The value that a field writes has the form of the field's kind, and the field is its text.
use Rattle.std.proofs.Common.{◌≡◌, ℕ, List, ◌∷◌, ◌++◌, length, true, decimal, unsigned_abs, sym, ap, ◌∙◌, arith}
use Rattle.std.proofs.lemmas.Bool.Decides.{nat_tests}
use Rattle.numerals.specs.Numerals.{IsDigitCount}
use Rattle.descriptions.specs.Fitting.{has_form, is_short}
use Rattle.descriptions.specs.Keys.{HasKey, equals}
use Rattle.descriptions.specs.Reading.{IsField, byte_of, IsValueOf}
use Rattle.descriptions.specs.Rows.{Kind, PlainRow, word, number, signed, value_text, row_text}
use Rattle.descriptions.specs.declared.field.Field.{Field}
use Rattle.descriptions.specs.declared.field.Field.TheVariants.{Word as WordField, Number as NumberField, Signed as SignedField}
use Rattle.descriptions.specs.declared.value.Value.{Value}
use Rattle.descriptions.proofs.Signs.{digits_of_magnitude}

pub record IsValueText (k : Kind) (bytes : List ℕ) (v : Value) : Type 0 where
  pub of_form : has_form k v ≡ true
  pub text : bytes ≡ value_text k v

-- digits that are few enough write a number that is short enough
short : (max_digits n : ℕ) (digits : List ℕ) → IsDigitCount max_digits (length digits) → digits ≡ decimal n → is_short max_digits n ≡ true
short max_digits n digits sized e =
    let size = ap length e in
    let within = sized.within in
    let ten = sized.short in
    grind (arith, nat_tests)

pub field_text : (k : Kind) (bytes : List ℕ) (byte : ℕ) (f : Field) (v : Value) → IsField k bytes byte f → IsValueOf f v → IsValueText k bytes v
field_text (word ws) bytes byte (WordField i s) v is of = rw of (record { of_form = grind (arith, nat_tests, is.0); text = is.1 })
field_text (word ws) bytes byte (NumberField d b) v is of = absurd is
field_text (word ws) bytes byte (SignedField d b) v is of = absurd is
field_text (number r) bytes byte (WordField i s) v is of = absurd is
field_text (number r) bytes byte (NumberField d b) v is of =
    let text : bytes ≡ decimal of.0 = sym is.0 ∙ of.2 in
    rw (of.1) (record { of_form = short r.max_digits of.0 bytes is.1 text; text = text })
field_text (number r) bytes byte (SignedField d b) v is of = absurd is
field_text (signed r) bytes byte (WordField i s) v is of = absurd is
field_text (signed r) bytes byte (NumberField d b) v is of = absurd is
field_text (signed r) bytes byte (SignedField d b) v is of =
    rw (of.1) (record { of_form = short r.max_digits (unsigned_abs of.0) d.digits.bytes.now is.1 (digits_of_magnitude d of.0 of.2); text = sym is.0 ∙ of.2 })

-- a line with the key and the text of a value is the row of that value
pub row_of_value : (r : PlainRow) (line bytes : List ℕ) (v : Value) → HasKey r.key line bytes → IsValueText r.kind bytes v → line ≡ row_text r v
row_of_value r line bytes v has t = has ∙ ap (λ (b : List ℕ). r.key ++ equals ∷ b) t.text

-- a field begins where the bytes do
pub field_byte : (k : Kind) (bytes : List ℕ) (byte : ℕ) (f : Field) → IsField k bytes byte f → byte_of f ≡ byte
field_byte (word ws) bytes byte (WordField i s) is = is.3
field_byte (word ws) bytes byte (NumberField d b) is = absurd is
field_byte (word ws) bytes byte (SignedField d b) is = absurd is
field_byte (number r) bytes byte (WordField i s) is = absurd is
field_byte (number r) bytes byte (NumberField d b) is = is.2
field_byte (number r) bytes byte (SignedField d b) is = absurd is
field_byte (signed r) bytes byte (WordField i s) is = absurd is
field_byte (signed r) bytes byte (NumberField d b) is = absurd is
field_byte (signed r) bytes byte (SignedField d b) is = is.2
