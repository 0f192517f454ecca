-- How many bytes the text of values has at most, whatever the values.
use Rattle.std.proofs.Common.{◌≡◌, ℕ, ◌+◌, ◌≤◌, true, List, [], ◌∷◌, length, arith, length-append}
use Rattle.std.proofs.lemmas.Bool.{and_parts, false≢true}
use Rattle.descriptions.specs.Fitting.{all_fit, fits}
use Rattle.descriptions.specs.Keys.{equals}
use Rattle.descriptions.specs.Laws.{value_room}
use Rattle.descriptions.specs.Layouts.{laid, rows_text}
use Rattle.descriptions.specs.Lines.{feed}
use Rattle.descriptions.specs.Rows.{PlainRow, row_text, value_text}
use Rattle.descriptions.specs.declared.layout.Layout.{Layout}
use Rattle.descriptions.specs.declared.layout.Layout.TheVariants.{Lines, Fields}
use Rattle.descriptions.specs.declared.value.Value.{Value}
use Rattle.descriptions.proofs.ValueTexts.{formed, value_short}

-- each row has its key, its value, the equals sign, and the byte that parts it from others
unfoldable pub text_room : List PlainRow → ℕ
text_room [] = 0
text_room (r ∷ rows) = length r.key + value_room r.kind + 2 + text_room rows

laid_length : (l : Layout) (row : List ℕ) → length (laid l row) ≡ length row + 1
laid_length (Lines window) row = length-append row (feed ∷ [])
laid_length Fields row = omega arith

pub within_room : (l : Layout) (rows : List PlainRow) (vs : List Value) → all_fit rows vs ≡ true → length (rows_text l rows vs) ≤ text_room rows
unfolding text_room
within_room l [] vs h = omega arith
within_room l (r ∷ rows) [] h = absurd (false≢true h)
within_room l (r ∷ rows) (v ∷ vs) h =
    let fit = and_parts (fits r.kind v) (all_fit rows vs) h in
    omega (arith, length-append (laid l (row_text r v)) (rows_text l rows vs), laid_length l (row_text r v), length-append r.key (equals ∷ value_text r.kind v), value_short r.kind v (formed r.kind v fit.0), within_room l rows vs fit.1)
