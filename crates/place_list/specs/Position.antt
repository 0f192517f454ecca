-- Between the steps of an insert: the index at which an item is to be put.
use Rattle.std.specs.Prelude.{ℕ, ◌-◌, ◌<◌, ◌≤◌, List, length, slice_index_or}

-- The item before the index i, if there is one, has a place of at most p.
abbrev pub NotGreaterBefore : {X : Type 0} → (X → ℕ) → ℕ → ℕ → List X → Type 0
NotGreaterBefore {X} place p i xs = (d : X) → 0 < i → place (slice_index_or xs (i - 1) d) ≤ p

-- From the index i on, the places are greater than p.
abbrev pub GreaterFrom : {X : Type 0} → (X → ℕ) → ℕ → ℕ → List X → Type 0
GreaterFrom {X} place p i xs = (d : X) (k : ℕ) → i ≤ k → k < length xs → p < place (slice_index_or xs k d)
