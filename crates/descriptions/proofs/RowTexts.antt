-- The text of a row: it has no separators, its line is within the window, and no other value has it.
use Rattle.std.proofs.Common.{◌≡◌, ℕ, ◌+◌, true, ◌&&◌, List, ◌∷◌, length, sym, refl, arith, length-append}
use mathlib.Core.List.{append_cancel_left}
use Rattle.std.proofs.lemmas.Bool.{and_parts, ltb-true}
use Rattle.descriptions.specs.Fitting.{has_form}
use Rattle.descriptions.specs.Keys.{equals, HasKey}
use Rattle.descriptions.specs.Laws.{is_plain, are_words, has_room, value_room, is_described}
use Rattle.descriptions.specs.Rows.{PlainRow, value_text, row_text}
use Rattle.descriptions.specs.declared.layout.Layout.{Layout}
use Rattle.descriptions.specs.declared.layout.Layout.TheVariants.{Lines, Fields}
use Rattle.descriptions.specs.declared.value.Value.{Value}
use Rattle.descriptions.proofs.Parts.{IsWithin}
use Rattle.descriptions.proofs.PlainBytes.{IsHigh, high_more, high_joined, plain_high}
use Rattle.descriptions.proofs.ValueTexts.{value_high, value_short, same_value}

-- what a description says of a row
pub record IsDescribed (l : Layout) (r : PlainRow) : Type 0 where
  pub plain : is_plain r.key ≡ true
  pub words : are_words r.kind ≡ true
  pub room : has_room l r ≡ true

pub described_row : (l : Layout) (r : PlainRow) (rs : List PlainRow) → is_described l (r ∷ rs) ≡ true → IsDescribed l r × (is_described l rs ≡ true)
unfolding is_described
described_row l r rs d =
    let parts = and_parts (is_plain r.key && (are_words r.kind && has_room l r)) (is_described l rs) d in
    let row = and_parts (is_plain r.key) (are_words r.kind && has_room l r) parts.0 in
    let kind = and_parts (are_words r.kind) (has_room l r) row.1 in
    (record { plain = row.0; words = kind.0; room = kind.1 }, parts.1)

-- a key has one value behind it
pub one_value : (key part v w : List ℕ) → HasKey key part v → HasKey key part w → v ≡ w
one_value key part v w a b =
    let tails : equals ∷ v ≡ equals ∷ w = append_cancel_left key (equals ∷ v) (equals ∷ w) (cc) in cc

module _ (l : Layout) (r : PlainRow) (d : IsDescribed l r) (v : Value) (form : has_form r.kind v ≡ true) where
  pub row_high : IsHigh (row_text r v)
  row_high = high_joined r.key (equals ∷ value_text r.kind v) (plain_high r.key d.plain) (high_more equals (value_text r.kind v) (omega arith) (value_high r.kind v d.words form))

  pub same_row : (w : Value) → has_form r.kind w ≡ true → row_text r v ≡ row_text r w → v ≡ w
  same_row w too e = same_value r.kind v w d.words form too (one_value r.key (row_text r w) (value_text r.kind v) (value_text r.kind w) (sym e) refl)

pub row_within : (l : Layout) (r : PlainRow) → IsDescribed l r → (v : Value) → has_form r.kind v ≡ true → IsWithin l (row_text r v)
unfolding has_room
row_within (Lines window) r d v form = omega (arith, value_short r.kind v form, ltb-true (length r.key + 1 + value_room r.kind) window d.room, length-append r.key (equals ∷ value_text r.kind v))
row_within Fields r d v form = tt
