-- What is left when one item is taken out.
use Rattle.std.specs.Prelude.{◌≡◌, ℕ, List, [], ◌∷◌, ◌++◌, length}
use Rattle.place_list.specs.Order.{at_place}

-- `new` is `old` without x, which stood at the index i.
-- The others are all there, each as often as before, and in their order.
pub record TakenFrom {X : Type 0} (i : ℕ) (x : X) (old new : List X) : Type 0 where
  pub before : List X
  pub behind : List X
  pub old_is : old ≡ before ++ x ∷ behind
  pub new_is : new ≡ before ++ behind
  pub index : length before ≡ i

-- The items at the place p, with x among them if that is its place: without x the others stand in the order in which they came.
pub record Leaves {X : Type 0} (place : X → ℕ) (x : X) (old new : List X) (p : ℕ) : Type 0 where
  pub before : List X
  pub behind : List X
  pub old_is : at_place place p old ≡ before ++ (at_place place p (x ∷ []) ++ behind)
  pub new_is : at_place place p new ≡ before ++ behind

-- So it is at every place.
abbrev pub KeepsTurns : {X : Type 0} → (X → ℕ) → X → List X → List X → Type 0
KeepsTurns place x old new = (p : ℕ) → Leaves place x old new p
