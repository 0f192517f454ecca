use Rattle.std.proofs.Common.{◌≡◌, ℕ, ◌+◌, Bool, true, false, ◌&&◌, List, length, Some, Option, refl, sym, ap, ◌∙◌, subst}
use Rattle.std.proofs.lemmas.Bool.{and_from}
use Rattle.std.proofs.lemmas.Option.{MatchOption-at_some}
use Rattle.descriptions.specs.Fitting.{has_form, is_in_range, fits}
use Rattle.descriptions.specs.Keys.{HasKey}
use Rattle.descriptions.specs.Reading.{FieldFound, IsValueOf, byte_of}
use Rattle.descriptions.specs.Rows.{PlainRow, plain_row, row_text}
use Rattle.descriptions.specs.declared.field.Field.{Field}
use Rattle.descriptions.specs.declared.value.Value.{Value}
use Rattle.descriptions.proofs.FieldValues.{field_text, field_byte, row_of_value}
use Rattle.descriptions.proofs.row.Row.read.Goals as goal

-- what stands behind the key is the text of the value, which has the form of the kind
value_read : (r : PlainRow) (part bytes : List ℕ) (byte : ℕ) (o : Option Field) (f : Field) (v : Value) → HasKey r.key part bytes → FieldFound r.kind bytes byte o → o ≡ Some f → IsValueOf f v →
    (has_form r.kind v ≡ true) × (part ≡ row_text r v) × (byte_of f ≡ byte)
value_read r part bytes byte o f v has found is of =
    let field = subst (FieldFound r.kind bytes byte) is found in
    let text = field_text r.kind bytes byte f v field of in
    (text.of_form, row_of_value r part bytes v has text, field_byte r.kind bytes byte f field)

pub returns-then-is_in_range : goal.returns-then-is_in_range
returns-then-is_in_range c =
    let row = plain_row c.args.self.now in
    let part = c.args.part.bytes.now in
    let value = c.value-value.result in
    let has : HasKey row.key part c.in_ok-bytes.bytes.now = MatchOption-at_some _ (λ v. HasKey row.key part v.now) c.in_ok-bytes.bytes c.in_ok-bytes.ensures.ok_part c.value_behind.ensures.some in
    let read = value_read row part c.in_ok-bytes.bytes.now (c.args.part.byte + length row.key + 1) c.field.result c.in_ok-field.field value has c.field.ensures c.in_ok-field.ensures.ok_part c.value-value.ensures in
    (and_from (has_form row.kind value) (is_in_range row.kind value) read.0 (sym c.is_in_range.ensures ∙ c.if-is_in_range.true), read.1)

pub returns-else-is_in_range : goal.returns-else-is_in_range
returns-else-is_in_range c =
    let row = plain_row c.args.self.now in
    let part = c.args.part.bytes.now in
    let value = c.value-value.result in
    let has : HasKey row.key part c.in_ok-bytes.bytes.now = MatchOption-at_some _ (λ v. HasKey row.key part v.now) c.in_ok-bytes.bytes c.in_ok-bytes.ensures.ok_part c.value_behind.ensures.some in
    let read = value_read row part c.in_ok-bytes.bytes.now (c.args.part.byte + length row.key + 1) c.field.result c.in_ok-field.field value has c.field.ensures c.in_ok-field.ensures.ok_part c.value-value.ensures in
    let out : fits row.kind value ≡ false = ap (λ (b : Bool). b && is_in_range row.kind value) read.0 ∙ (sym c.is_in_range.ensures ∙ c.if-is_in_range.false) in
    (refl, c.byte.ensures ∙ read.2, (value, read.0, out, read.1))
