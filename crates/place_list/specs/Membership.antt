-- What stands in a sequence, and sequences that differ by one item.
use Rattle.std.specs.Prelude.{◌≡◌, ◌⊎◌, List, [], ◌∷◌}

-- x stands in the sequence.
abbrev pub In : {X : Type 0} → X → List X → Type 0
In x [] = ⊥
In x (y ∷ ys) = (x ≡ y) ⊎ In x ys

-- In `more` stand x and what stands in `less`, and nothing else.
pub record OneMore {X : Type 0} (x : X) (less more : List X) : Type 0 where
  pub it : In x more
  pub rest : (y : X) → In y less → In y more
  pub only : (y : X) → In y more → In y less ⊎ (y ≡ x)
