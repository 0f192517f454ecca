-- Places that ascend, and the items at one place.
use Rattle.std.specs.Prelude.{ℕ, ◌<◌, ◌≤◌, Bool, true, ◌&&◌, List, [], ◌∷◌, length, filter, nat_eq, nat_le, slice_index_or}

-- The first place is at least p, and each other one at least the place before it.
abbrev pub ascends_from : {X : Type 0} → (X → ℕ) → ℕ → List X → Bool
ascends_from place p [] = true
ascends_from place p (x ∷ xs) = nat_le p (place x) && ascends_from place (place x) xs

abbrev pub ascends : {X : Type 0} → (X → ℕ) → List X → Bool
ascends place xs = ascends_from place 0 xs

-- What it means: of any two items, the one that stands first has not the greater place.
abbrev pub Ascending : {X : Type 0} → (X → ℕ) → List X → Type 0
Ascending {X} place xs = (d : X) (i j : ℕ) → i < j → j < length xs → place (slice_index_or xs i d) ≤ place (slice_index_or xs j d)

-- The items at the place p, in the order in which they stand.
abbrev pub at_place : {X : Type 0} → (X → ℕ) → ℕ → List X → List X
at_place place p xs = filter (λ y. nat_eq (place y) p) xs
