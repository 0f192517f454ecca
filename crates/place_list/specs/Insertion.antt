-- Where an inserted item stands: behind the last one whose place is not greater.
use Rattle.std.specs.Prelude.{◌≡◌, ℕ, ◌<◌, ◌≤◌, cond, List, [], ◌∷◌, ◌++◌, nat_lt}
use Rattle.std.specs.List.{AllByRecursion}
use Rattle.place_list.specs.Order.{at_place}

-- The sequence with x before the first item of a greater place.
abbrev pub placed_in : {X : Type 0} → (X → ℕ) → X → List X → List X
placed_in place x [] = x ∷ []
placed_in place x (y ∷ ys) = cond (nat_lt (place x) (place y)) (x ∷ y ∷ ys) (y ∷ placed_in place x ys)

-- `new` is `old` with x put in: behind every item whose place is not greater, before every item of a greater place.
-- The others are all there, each as often as before, and in their order.
pub record PutIn {X : Type 0} (place : X → ℕ) (x : X) (old new : List X) : Type 0 where
  pub before : List X
  pub behind : List X
  pub old_is : old ≡ before ++ behind
  pub new_is : new ≡ before ++ x ∷ behind
  pub not_greater : AllByRecursion (λ y. place y ≤ place x) before
  pub greater : AllByRecursion (λ y. place x < place y) behind

-- At every place the items stand in the order in which they came: x is the last at its place, and the others are as before.
abbrev pub ComesLast : {X : Type 0} → (X → ℕ) → X → List X → List X → Type 0
ComesLast place x old new = (p : ℕ) → at_place place p new ≡ at_place place p old ++ at_place place p (x ∷ [])
