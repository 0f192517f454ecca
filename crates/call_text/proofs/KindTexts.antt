-- The kinds of a table: their words differ, and the text of a kind with its values has no line feed.
use Rattle.std.proofs.Common.{◌≡◌, ℕ, zero, suc, ◌<◌, true, ◌&&◌, List, [], ◌∷◌, length, map, codes, sym, refl, ◌∙◌, le_of_suc-le-suc, arith}
use Rattle.std.proofs.lemmas.Bool.{and_parts, false≢true}
use Rattle.std.proofs.lemmas.List.{get_or-map, length-map}
use Rattle.descriptions.specs.Fitting.{all_fit, fits}
use Rattle.descriptions.specs.Keys.{equals}
use Rattle.descriptions.specs.Laws.{is_plain, is_described, all_differ}
use Rattle.descriptions.specs.Layouts.{space, rows_text}
use Rattle.descriptions.specs.Lines.{feed}
use Rattle.descriptions.specs.Rows.{PlainRow, row_text}
use Rattle.descriptions.specs.declared.layout.Layout.TheVariants.{Fields}
use Rattle.descriptions.specs.declared.value.Value.{Value}
use Rattle.descriptions.proofs.PlainBytes.{IsHigh, high_more, high_joined, high_without, plain_high}
use Rattle.descriptions.proofs.RowTexts.{described_row, row_high}
use Rattle.descriptions.proofs.Separators.{Without, without_more, without_joined}
use Rattle.descriptions.proofs.ValueTexts.{formed}
use Rattle.descriptions.proofs.WordLists.{one_place}
use Rattle.call_text.specs.KindLines.{are_kinds, is_table}
use Rattle.call_text.specs.Kinds.{PlainCallKind, no_kind, kind_at, head_text, kind_text, IsOfKind}

-- what a table says of a kind
pub record IsDescribedKind (k : PlainCallKind) : Type 0 where
  pub plain : is_plain k.word ≡ true
  pub fields : is_described Fields k.fields ≡ true

described_at : (kinds : List PlainCallKind) (i : ℕ) → are_kinds kinds ≡ true → i < length kinds → IsDescribedKind (kind_at kinds i)
unfolding are_kinds
described_at [] i e h = absurd (omega arith)
described_at (k ∷ kinds) zero e h =
    let kind = and_parts (is_plain k.word) (is_described Fields k.fields) (and_parts (is_plain k.word && is_described Fields k.fields) (are_kinds kinds) e).0 in
    record { plain = kind.0; fields = kind.1 }
described_at (k ∷ kinds) (suc i) e h = described_at kinds i (and_parts (is_plain k.word && is_described Fields k.fields) (are_kinds kinds) e).1 (le_of_suc-le-suc h)

fields_without_feed : (rows : List PlainRow) (vs : List Value) → is_described Fields rows ≡ true → all_fit rows vs ≡ true → Without feed (rows_text Fields rows vs)
fields_without_feed [] vs d fit = λ k h e. omega arith
fields_without_feed (r ∷ rows) [] d fit = absurd (false≢true fit)
fields_without_feed (r ∷ rows) (v ∷ vs) d fit =
    let row = described_row Fields r rows d in
    let parts = and_parts (fits r.kind v) (all_fit rows vs) fit in
    let high : IsHigh (row_text r v) = row_high Fields r row.0 v (formed r.kind v parts.0) in
    without_joined feed (space ∷ row_text r v) (rows_text Fields rows vs) (without_more feed space (row_text r v) (λ e. omega arith) (high_without feed (row_text r v) (omega arith) high))
    (fields_without_feed rows vs row.1 parts.1)

call_high : IsHigh (codes "call")
unfolding is_plain
call_high = plain_high (codes "call") refl

module _ (kinds : List PlainCallKind) (table : is_table kinds ≡ true) where
  table_parts : (are_kinds kinds ≡ true) × (all_differ (map (λ k. k.word) kinds) ≡ true)
  unfolding is_table
  table_parts = and_parts (are_kinds kinds) (all_differ (map (λ k. k.word) kinds)) table

  pub described_kind : (i : ℕ) → i < length kinds → IsDescribedKind (kind_at kinds i)
  described_kind i h = described_at kinds i table_parts.0 h

  -- a word names one kind
  pub one_word : (i j : ℕ) → i < length kinds → j < length kinds → (kind_at kinds i).word ≡ (kind_at kinds j).word → i ≡ j
  one_word i j hi hj e =
      let size = length-map kinds (λ k. k.word) in
      one_place (map (λ k. k.word) kinds) i j table_parts.1 (omega arith) (omega arith)
      (get_or-map (λ (k : PlainCallKind). k.word) kinds i no_kind [] hi ∙ (e ∙ sym (get_or-map (λ (k : PlainCallKind). k.word) kinds j no_kind [] hj)))

  pub head_high : (i : ℕ) → i < length kinds → IsHigh (head_text (kind_at kinds i))
  head_high i h =
      let word = high_more equals (kind_at kinds i).word (omega arith) (plain_high (kind_at kinds i).word (described_kind i h).plain) in
      high_joined (codes "call") (equals ∷ (kind_at kinds i).word) call_high word

  pub kind_without_feed : (i : ℕ) (vs : List Value) → IsOfKind kinds i vs → Without feed (kind_text kinds i vs)
  unfolding kind_text
  kind_without_feed i vs of =
      let head = head_text (kind_at kinds i) in
      without_joined feed head (rows_text Fields (kind_at kinds i).fields vs) (high_without feed head (omega arith) (head_high i of.0))
      (fields_without_feed (kind_at kinds i).fields vs (described_kind i of.0).fields of.1)
