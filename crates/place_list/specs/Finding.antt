-- The first item with a given mark, as its place or its key.
use Rattle.std.specs.Prelude.{◌≡◌, ℕ, ◌<◌, List, length, Some, None, Option, ◌≢◌, slice_index_or}
use Rattle.place_list.specs.Membership.{In}

-- At the index i stands an item with the mark n, and before it none.
pub record FirstAt {X : Type 0} (mark : X → ℕ) (n : ℕ) (xs : List X) (i : ℕ) : Type 0 where
  pub within : i < length xs
  pub here : (d : X) → mark (slice_index_or xs i d) ≡ n
  pub none_before : (d : X) (k : ℕ) → k < i → mark (slice_index_or xs k d) ≢ n

-- The index of the first item with the mark n, or none where no item has it.
abbrev pub Found : {X : Type 0} → (X → ℕ) → ℕ → List X → Option ℕ → Type 0
Found mark n xs (Some i) = FirstAt mark n xs i
Found {X} mark n xs None = (y : X) → In y xs → mark y ≢ n
