-- Some of the rows are written and the others are left: the text of both is the whole text.
use Rattle.std.proofs.Common.{◌≡◌, ℕ, true, List, [], ◌∷◌, ◌++◌, ◌⊎◌, sym, subst, ap, ◌∙◌, append_assoc}
use Rattle.std.proofs.lemmas.Bool.{and_parts}
use Rattle.std.proofs.lemmas.List.{append-nil}
use Rattle.descriptions.specs.Fitting.{all_fit, fits}
use Rattle.descriptions.specs.Layouts.{laid, rows_text}
use Rattle.descriptions.specs.Rows.{plain_kind, plain_row, plain_rows, row_text}
use Rattle.descriptions.specs.Writing.{Put}
use Rattle.descriptions.specs.declared.layout.Layout.{Layout}
use Rattle.descriptions.specs.declared.row.Row.{Row}
use Rattle.descriptions.specs.declared.value.Value.{Value}
use Rattle.descriptions.proofs.Joining.{join}
use Rattle.descriptions.proofs.RowsLeft.{none_left}

-- `rows` and `vs` are what is left. The text that is written so far stands from `at` to `end`, and with the text that is left it is `whole`.
pub record Progress (l : Layout) (rows : List Row) (vs : List Value) (whole before : List ℕ) (at : ℕ) (after : List ℕ) (end : ℕ) : Type 0 where
  pub fit : all_fit (plain_rows rows) vs ≡ true
  pub done : List ℕ
  pub put : Put before at done after end
  pub parts : done ++ rows_text l (plain_rows rows) vs ≡ whole

-- the next row is written
pub step : {l : Layout} {r : Row} {rows : List Row} {v : Value} {vs : List Value} {whole before middle after : List ℕ} {at end next : ℕ} → Progress l (r ∷ rows) (v ∷ vs) whole before at middle end → Put middle end (laid l (row_text (plain_row r) v)) after next → Progress l rows vs whole before at after next
step {l} {r} {rows} {v} {vs} p q = record {
  fit = (and_parts (fits (plain_kind r.kind) v) (all_fit (plain_rows rows) vs) p.fit).1;
  done = p.done ++ laid l (row_text (plain_row r) v);
  put = join p.put q;
  parts = append_assoc p.done (laid l (row_text (plain_row r) v)) (rows_text l (plain_rows rows) vs) ∙ p.parts;
}

-- nothing is left
pub finish : {l : Layout} {rows : List Row} {vs : List Value} {whole before after : List ℕ} {at end : ℕ} → Progress l rows vs whole before at after end → (rows ≡ []) ⊎ (vs ≡ []) → Put before at whole after end
finish {l} {rows} {vs} {whole} {before} {after} {at} {end} p e =
    let all : p.done ≡ whole = sym (append-nil p.done) ∙ (ap (λ (t : List ℕ). p.done ++ t) (sym (none_left l rows vs e)) ∙ p.parts) in
    subst (λ (text : List ℕ). Put before at text after end) all p.put
