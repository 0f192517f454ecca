-- What an answer was before its fault was turned into another.
use Rattle.std.proofs.Common.{◌≡◌, Ok, Err, Result, MatchResult, refl, ap, subst}
use Rattle.std.specs.Result.{IsErrAnd}
use Rattle.std.proofs.lemmas.Result.{err_from_is_err_and}

-- without a fault afterwards there was none, and the value is the same
pub ok_before : {T E D : Type 0} (r : Result T E) (s : Result T D) (Q : E → D → Type 0) (x : T) → MatchResult r (λ y. s ≡ Ok y) (λ e. IsErrAnd s (Q e)) → s ≡ Ok x → r ≡ Ok x
ok_before (Ok y) s Q x turns is = let same : y ≡ x = cc in ap Ok same
ok_before (Err e) s Q x turns is = let was = err_from_is_err_and s turns in absurd (cc (was.1))

-- with a fault afterwards there was one that is turned into it
pub err_before : {T E D : Type 0} (r : Result T E) (s : Result T D) (Q : E → D → Type 0) (d : D) → MatchResult r (λ y. s ≡ Ok y) (λ e. IsErrAnd s (Q e)) → s ≡ Err d → (e : E) × (r ≡ Err e) × Q e d
err_before (Ok y) s Q d turns is = absurd (cc)
err_before (Err e) s Q d turns is =
    let was = err_from_is_err_and s turns in
    let same : was.0 ≡ d = cc (was.1) in (e, refl, subst (Q e) same was.2)
