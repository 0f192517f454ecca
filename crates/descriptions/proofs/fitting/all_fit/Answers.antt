-- Rows and values fit one for one where each pair fits, and there are as many of both.
use Rattle.std.proofs.Common.{rules, tests, ◌≡◌, ◌≢◌, Bool, ◌&&◌, nat_eq, List, [], ◌∷◌, length, ap, ◌∙◌, refl, arith}
use Rattle.std.proofs.lemmas.Iterator.{YieldsList-from_slice, YieldsList-from_zip}
use Rattle.std.proofs.lemmas.Iterator.Search.{all_from_yields_List}
use Rattle.std.specs.List.{list_all, zip}
use Rattle.descriptions.specs.Fitting.{all_fit, fits}
use Rattle.descriptions.specs.Rows.{plain_kind, plain_rows}
use Rattle.descriptions.specs.declared.row.Row.{Row}
use Rattle.descriptions.specs.declared.value.Value.{Value}
use Rattle.descriptions.proofs.fitting.all_fit.Goals as goal

abbrev pair_fits : Row × Value → Bool
pair_fits p = fits (plain_kind p.0.kind) p.1

each_pair : (rows : List Row) (vs : List Value) → length rows ≡ length vs → list_all pair_fits (zip rows vs) ≡ all_fit (plain_rows rows) vs
each_pair [] [] e = refl
each_pair [] (v ∷ vs) e = cc
each_pair (r ∷ rows) [] e = cc
each_pair (r ∷ rows) (v ∷ vs) e = ap (λ (b : Bool). pair_fits (r, v) && b) (each_pair rows vs (omega arith))

not_as_many : (rows : List Row) (vs : List Value) → length rows ≢ length vs → nat_eq (length rows) (length vs) ≡ all_fit (plain_rows rows) vs
not_as_many [] [] e = grind arith
not_as_many [] (v ∷ vs) e = grind arith
not_as_many (r ∷ rows) [] e = grind arith
not_as_many (r ∷ rows) (v ∷ vs) e = grind (arith, not_as_many rows vs (omega arith))

pub returns-then-rows-values : goal.returns-then-rows-values
returns-then-rows-values c =
    all_from_yields_List pair_fits c.all.new.self _ _ c.all.ensures.ran (YieldsList-from_zip (YieldsList-from_slice c.args.rows.now cc) (YieldsList-from_slice c.args.values.now cc)) (λ x b q k. search (rules, tests))
    ∙ each_pair c.args.rows.now c.args.values.now c.if-rows-values.true

pub returns-else-rows-values : goal.returns-else-rows-values
returns-else-rows-values c = not_as_many c.args.rows.now c.args.values.now c.if-rows-values.false
