-- A rule of a table holds at every entry where one computed test passes.
use Rattle.std.proofs.Common.{◌≡◌, ℕ, zero, suc, ◌+◌, ◌<◌, Bool, true, ◌&&◌, List, [], ◌∷◌, length, get_or, subst, le_of_suc-le-suc, add-zero, zero-add, arith}
use Rattle.std.proofs.lemmas.Bool.{and_parts}

-- the test of each entry with its place, counted on from i
abbrev pub every : (ℕ → ℕ → Bool) → ℕ → List ℕ → Bool
every test i [] = true
every test i (x ∷ xs) = test i x && every test (suc i) xs

holds_from : (test : ℕ → ℕ → Bool) (xs : List ℕ) (i : ℕ) → every test i xs ≡ true → (k : ℕ) → k < length xs → test (i + k) (get_or xs k 0) ≡ true
holds_from test [] i e k h = let none : ⊥ = omega arith in absurd none
holds_from test (x ∷ xs) i e zero h = rw add-zero (and_parts (test i x) (every test (suc i) xs) e).0
holds_from test (x ∷ xs) i e (suc k) h =
    let place : suc i + k ≡ i + suc k = omega arith in
    subst (λ (n : ℕ). test n (get_or xs k 0) ≡ true) place (holds_from test xs (suc i) (and_parts (test i x) (every test (suc i) xs) e).1 k (le_of_suc-le-suc h))

pub holds : (test : ℕ → ℕ → Bool) (xs : List ℕ) → every test 0 xs ≡ true → (k : ℕ) → k < length xs → test k (get_or xs k 0) ≡ true
holds test xs e k h = subst (λ (n : ℕ). test n (get_or xs k 0) ≡ true) (zero-add k) (holds_from test xs 0 e k h)
