-- The text of the rows that a loop has not come to yet.
use Rattle.std.proofs.Common.{◌≡◌, ◌+◌, List, [], ◌∷◌, length, ◌⊎◌, inl, inr, refl, arith}
use Rattle.std.proofs.lemmas.List.{length-append}
use Rattle.descriptions.specs.Keys.{equals}
use Rattle.descriptions.specs.Layouts.{laid, rows_text}
use Rattle.descriptions.specs.Lines.{feed}
use Rattle.descriptions.specs.Rows.{plain_kind, plain_row, plain_rows, row_text, value_text}
use Rattle.descriptions.specs.declared.layout.Layout.{Layout}
use Rattle.descriptions.specs.declared.layout.Layout.TheVariants.{Lines, Fields}
use Rattle.descriptions.specs.declared.row.Row.{Row}
use Rattle.descriptions.specs.declared.value.Value.{Value}

-- with no row left, or no value, there is no text left
pub none_left : (l : Layout) (rows : List Row) (vs : List Value) → (rows ≡ []) ⊎ (vs ≡ []) → rows_text l (plain_rows rows) vs ≡ []
none_left l [] vs e = refl
none_left l (r ∷ rows) [] e = refl
none_left l (r ∷ rows) (v ∷ vs) (inl e) = cc
none_left l (r ∷ rows) (v ∷ vs) (inr e) = cc

-- besides key and value a row has its equals sign, and a line feed or a space
laid_length : (l : Layout) (r : Row) (v : Value) → length (laid l (row_text (plain_row r) v)) ≡ length r.key.now + length (value_text (plain_kind r.kind) v) + 2
laid_length (Lines window) r v =
    omega (arith, length-append (row_text (plain_row r) v) (feed ∷ []), length-append r.key.now (equals ∷ value_text (plain_kind r.kind) v))
laid_length Fields r v = omega (arith, length-append r.key.now (equals ∷ value_text (plain_kind r.kind) v))

pub next_length : (l : Layout) (r : Row) (rows : List Row) (v : Value) (vs : List Value) → length (rows_text l (plain_rows (r ∷ rows)) (v ∷ vs)) ≡ length r.key.now + length (value_text (plain_kind r.kind) v) + 2 + length (rows_text l (plain_rows rows) vs)
next_length l r rows v vs = omega (arith, laid_length l r v, length-append (laid l (row_text (plain_row r) v)) (rows_text l (plain_rows rows) vs))
