-- How far the reading of rows has come: some of them stand in the text, and the memory for the other values is as it was.
use Rattle.std.proofs.Common.{◌≡◌, ℕ, ◌+◌, ◌<◌, List, [], ◌∷◌, ◌++◌, length, get_or, set, take, drop, replicate, min, pos, sym, refl, ap, ◌∙◌, subst, inl, inr, arith}
use Rattle.std.specs.List.{enumerate_from}
use Rattle.std.proofs.lemmas.List.{take_more, take_more_set, take_all, take-append-drop, take-map, drop_more, drop-drop, drop-set-lt, get_or-map, length-set, length-map, length-take, length-replicate, take_min, drop_min}
use Rattle.std.proofs.lemmas.List.FromFn.{length-enumerate_from, get_or-enumerate_from}
use Rattle.descriptions.specs.Reading.{RowStands, RowFault, RowsStand, RowsStop}
use Rattle.descriptions.specs.Rows.{PlainRow, plain_row, plain_rows}
use Rattle.descriptions.specs.declared.faults.ValueFault.{ValueFault}
use Rattle.descriptions.specs.declared.layout.Layout.{Layout}
use Rattle.descriptions.specs.declared.row.Row.{Row}
use Rattle.descriptions.specs.declared.value.Value.{Value}
use Rattle.descriptions.specs.declared.value.Value.TheVariants.{Number as NumberValue}

-- one more row that stands behind others
rows_push : (l : Layout) (rs : List PlainRow) (vs : List Value) (r : PlainRow) (v : Value) (text : List ℕ) (start at next : ℕ)
    → RowsStand l rs vs text start at → RowStands l r v text at next → RowsStand l (rs ++ r ∷ []) (vs ++ v ∷ []) text start next
rows_push l [] [] r v text start at next before stands = (next, subst (λ (b : ℕ). RowStands l r v text b next) (sym before) stands, refl)
rows_push l [] (w ∷ vs) r v text start at next before stands = absurd before
rows_push l (x ∷ rs) [] r v text start at next before stands = absurd before
rows_push l (x ∷ rs) (w ∷ vs) r v text start at next before stands = (before.0, before.1, rows_push l rs vs r v text before.0 at next before.2 stands)

-- a fault of the row behind those that stand there is where any rows that begin with these stop
rows_stop : (l : Layout) (n : ℕ) (rs : List PlainRow) (vs : List Value) (r : PlainRow) (behind : List PlainRow) (text : List ℕ) (start at : ℕ) (f : ValueFault)
    → RowsStand l rs vs text start at → RowFault l n r text at f → RowsStop l n (rs ++ r ∷ behind) text start f
rows_stop l n [] [] r behind text start at f before fault = inl (subst (λ (b : ℕ). RowFault l n r text b f) (sym before) fault)
rows_stop l n [] (w ∷ vs) r behind text start at f before fault = absurd before
rows_stop l n (x ∷ rs) [] r behind text start at f before fault = absurd before
rows_stop l n (x ∷ rs) (w ∷ vs) r behind text start at f before fault = inr (w, before.0, before.1, rows_stop l n rs vs r behind text before.0 at f before.2 fault)

-- the first i rows stand there, and the values behind theirs are still blank
pub record Progress (l : Layout) (rows : List PlainRow) (count : ℕ) (text : List ℕ) (start i at : ℕ) (values : List Value) : Type 0 where
  pub stand : RowsStand l (take i rows) (take i values) text start at
  pub blank : drop i values ≡ drop i (replicate count (NumberValue (pos 0)))
  pub sized : length values ≡ count

-- no row is read yet
pub begin : (l : Layout) (rows : List PlainRow) (count : ℕ) (text : List ℕ) (start : ℕ) → Progress l rows count text start 0 start (replicate count (NumberValue (pos 0)))
begin l rows count text start = record { stand = refl; blank = refl; sized = length-replicate count (NumberValue (pos 0)) }

-- where the next row stands there too, its value is put in
pub step : (l : Layout) (rows : List PlainRow) (count : ℕ) (text : List ℕ) (start i at next : ℕ) (values : List Value) (r : PlainRow) (v : Value)
    → Progress l rows count text start i at values → i < length rows → i < count → r ≡ get_or rows i r → RowStands l r v text at next → Progress l rows count text start (i + 1) next (set values i v)
step l rows count text start i at next values r v p h inside due stands =
    let front : take (i + 1) rows ≡ take i rows ++ r ∷ [] = take_more rows i r h ∙ ap (λ (x : PlainRow). take i rows ++ x ∷ []) (sym due) in
    let read : take (i + 1) (set values i v) ≡ take i values ++ v ∷ [] = take_more_set values i v (omega (arith, p.sized)) in
    record {
      stand = rw (front, read) (rows_push l (take i rows) (take i values) r v text start at next p.stand stands);
      blank = drop-set-lt (i + 1) values i v (omega arith) ∙ (sym (drop-drop 1 i values) ∙ (ap (drop 1) p.blank ∙ drop-drop 1 i (replicate count (NumberValue (pos 0)))));
      sized = length-set values i v ∙ p.sized;
    }

-- where the next row has a fault, all the rows stop at it
pub stop : (l : Layout) (n : ℕ) (rows : List PlainRow) (count : ℕ) (text : List ℕ) (start i at : ℕ) (values : List Value) (r : PlainRow) (f : ValueFault)
    → Progress l rows count text start i at values → i < length rows → r ≡ get_or rows i r → RowFault l n r text at f → RowsStop l n rows text start f
stop l n rows count text start i at values r f p h due fault =
    let parts : rows ≡ take i rows ++ r ∷ drop (i + 1) rows = sym (take-append-drop i rows) ∙ ap (λ (t : List PlainRow). take i rows ++ t) (drop_more rows i r h ∙ ap (λ (x : PlainRow). x ∷ drop (i + 1) rows) (sym due)) in
    subst (λ (rs : List PlainRow). RowsStop l n rs text start f) (sym parts) (rows_stop l n (take i rows) (take i values) r (drop (i + 1) rows) text start at f p.stand fault)

-- the row is the one of the rows to be read that is due when i of them have been read
pub record IsDue (rows : List Row) (count i index : ℕ) (row : Row) : Type 0 where
  pub place : index ≡ i
  pub inside : i < length (take count (plain_rows rows))
  pub counted : i < count
  pub is : plain_row row ≡ get_or (take count (plain_rows rows)) i (plain_row row)

-- the rows are counted as they are read, and no more of them than there are values
pub due : (rows : List Row) (count i index : ℕ) (row : Row)
    → (i < length (enumerate_from 0 (take count rows))) × ◌≡◌ {A = ℕ × Row} (index, row) (get_or (enumerate_from 0 (take count rows)) i (index, row)) → IsDue rows count i index row
due rows count i index row turn =
    let size = length-enumerate_from 0 (take count rows) in
    let some = length-take count rows in
    let inside : i < length (take count rows) = omega (arith, turn.0) in
    let pair : ◌≡◌ {A = ℕ × Row} (index, row) (0 + i, get_or (take count rows) i row) = turn.1 ∙ get_or-enumerate_from 0 (take count rows) i (index, row) inside in
    let plain : take count (plain_rows rows) ≡ plain_rows (take count rows) = take-map plain_row count rows in
    record {
      place = omega (arith, ap (λ (p : ℕ × Row). p.0) pair);
      inside = omega (arith, ap length plain, length-map (take count rows) plain_row);
      counted = omega arith;
      is = ap (λ (p : ℕ × Row). plain_row p.1) pair
          ∙ (sym (get_or-map plain_row (take count rows) i row (plain_row row) inside) ∙ ap (λ (rs : List PlainRow). get_or rs i (plain_row row)) (sym plain));
    }

-- where as many rows stand there as there are, or as there are values, all of both are done
pub finish : (l : Layout) (rows : List Row) (count : ℕ) (text : List ℕ) (start i at : ℕ) (values : List Value)
    → Progress l (take count (plain_rows rows)) count text start i at values → i ≡ length (enumerate_from 0 (take count rows))
    → RowsStand l (take count (plain_rows rows)) (take (length rows) values) text start at × (drop (length rows) values ≡ drop (length rows) (replicate count (NumberValue (pos 0))))
finish l rows count text start i at values p all =
    let blank = replicate count (NumberValue (pos 0)) in
    let size = length-enumerate_from 0 (take count rows) in
    let some = length-take count rows in
    let plain = ap length (take-map plain_row count rows) in
    let sized = length-map (take count rows) plain_row in
    let those : i ≡ min (length rows) (length values) = omega (arith, p.sized) in
    let blanks : i ≡ min (length rows) (length blank) = omega (arith, length-replicate count (NumberValue (pos 0))) in
    let of_rows : take i (take count (plain_rows rows)) ≡ take count (plain_rows rows) = take_all i (take count (plain_rows rows)) (omega arith) in
    let of_values : take i values ≡ take (length rows) values = ap (λ (k : ℕ). take k values) those ∙ take_min (length rows) values in
    let behind : drop i values ≡ drop (length rows) values = ap (λ (k : ℕ). drop k values) those ∙ drop_min (length rows) values in
    let beyond : drop i blank ≡ drop (length rows) blank = ap (λ (k : ℕ). drop k blank) blanks ∙ drop_min (length rows) blank in
    (rw (← of_rows, ← of_values) p.stand, sym behind ∙ (p.blank ∙ beyond))
