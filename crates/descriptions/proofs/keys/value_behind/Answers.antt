use Rattle.std.proofs.Common.{◌≡◌, ℕ, List, [], ◌∷◌, ◌++◌, Some, None, Option, IfSome, Bor, ap, ◌∙◌}
use Rattle.std.specs.Option.{MatchOption}
use Rattle.std.proofs.lemmas.Bool.Decides.{Decides-eqb}
use Rattle.std.proofs.lemmas.Slice.Eq.{strip_prefix_is}
use Rattle.descriptions.specs.Keys.{HasKey}
use Rattle.descriptions.proofs.keys.value_behind.Goals as goal

keyed : (key line rest : List ℕ) (r : Option (Bor (List ℕ))) (P : Type 0) → line ≡ key ++ rest → MatchOption r P (λ v. rest ≡ 61 ∷ v.now) → IfSome r (λ v. HasKey key line v.now)
keyed key line rest (Some v) P e m = e ∙ ap (λ (t : List ℕ). key ++ t) m
keyed key line rest None P e m = tt

pub returns-in_err-strip_prefix-clause-none : goal.returns-in_err-strip_prefix-clause-none
returns-in_err-strip_prefix-clause-none c =
    rw c.from_residual.ensures (λ value e. strip_prefix_is Decides-eqb c.args.line.now c.args.key.now None c.in_err-strip_prefix.ensures.cases (61 ∷ value) e)

pub returns-clause-some : goal.returns-clause-some
returns-clause-some c =
    let rest = c.in_ok-strip_prefix.field-0.now in
    keyed c.args.key.now c.args.line.now rest c.strip_prefix-2.result _
    (strip_prefix_is Decides-eqb c.args.line.now c.args.key.now (Some c.in_ok-strip_prefix.field-0) c.in_ok-strip_prefix.ensures.cases)
    (strip_prefix_is Decides-eqb rest (61 ∷ []) c.strip_prefix-2.result c.strip_prefix-2.ensures.cases)
