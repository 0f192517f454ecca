-- Values that fit rows are as many, and each fits its row.
use Rattle.std.proofs.Common.{◌≡◌, ℕ, zero, suc, ◌<◌, true, List, [], ◌∷◌, length, get_or, refl, ap, arith, le_of_suc-le-suc}
use Rattle.std.proofs.lemmas.Bool.{and_parts}
use Rattle.descriptions.specs.Fitting.{all_fit, fits}
use Rattle.descriptions.specs.Rows.{PlainRow}
use Rattle.descriptions.specs.declared.value.Value.{Value}

pub as_many : (rows : List PlainRow) (vs : List Value) → all_fit rows vs ≡ true → length vs ≡ length rows
as_many [] [] h = refl
as_many [] (v ∷ vs) h = let z : ◌≡◌ {A = ℕ} 0 1 = cc in absurd (omega arith)
as_many (r ∷ rows) [] h = let z : ◌≡◌ {A = ℕ} 0 1 = cc in absurd (omega arith)
as_many (r ∷ rows) (v ∷ vs) h = ap suc (as_many rows vs (and_parts (fits r.kind v) (all_fit rows vs) h).1)

-- the i-th value fits the i-th row, whatever stands in memory behind the last ones
pub fit_at : (rows : List PlainRow) (vs : List Value) (i : ℕ) (no_row : PlainRow) (no_value : Value) → i < length rows → all_fit rows vs ≡ true
    → fits (get_or rows i no_row).kind (get_or vs i no_value) ≡ true
fit_at [] vs i no_row no_value few h = absurd (omega arith)
fit_at (r ∷ rows) [] i no_row no_value few h = let z : ◌≡◌ {A = ℕ} 0 1 = cc in absurd (omega arith)
fit_at (r ∷ rows) (v ∷ vs) zero no_row no_value few h = (and_parts (fits r.kind v) (all_fit rows vs) h).0
fit_at (r ∷ rows) (v ∷ vs) (suc i) no_row no_value few h = fit_at rows vs i no_row no_value (le_of_suc-le-suc few) (and_parts (fits r.kind v) (all_fit rows vs) h).1
