-- A call that is not refused has no ground against it.
use Rattle.std.proofs.Common.{◌≡◌, true, false, cond, List, [], ◌∷◌, Some, None, refl, arith}
use Rattle.history.specs.Step.{Ground, first}

-- None of the grounds holds.
abbrev pub Groundless : List Ground → Type 0
Groundless [] = Unit {0}
Groundless (g ∷ gs) = (g.holds ≡ false) × Groundless gs

pub groundless : (gs : List Ground) → first gs ≡ None → Groundless gs
groundless [] e = tt
groundless (g ∷ gs) e = elim g.holds as (λ v. cond v (Some g.refusal) (first gs) ≡ None → (v ≡ false) × Groundless gs)
    [ true ↦ λ k. grind arith | false ↦ λ k. (refl, groundless gs k) ] e
