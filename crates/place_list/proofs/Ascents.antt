-- Ascending places: read by index, and kept where an item is copied over its neighbour.
use Rattle.std.proofs.Common.{◌≡◌, ℕ, zero, suc, ◌<◌, ◌≤◌, true, leb, List, [], ◌∷◌, length, get_or, take, refl, ap, ◌∙◌, arith}
use Rattle.std.specs.List.{remove, AllByRecursion}
use Rattle.std.specs.List.Sorted.{IsNonDecreasingBy}
use Rattle.std.proofs.lemmas.Bool.{and_parts, and_from, leb-true, le-leb}
use Rattle.place_list.specs.Order.{ascends, ascends_from, Ascending}

-- The first place is at least p, and each other one at least the place before it.
abbrev pub Climbs : {X : Type 0} → (X → ℕ) → ℕ → List X → Type 0
Climbs place p [] = Unit {0}
Climbs place p (x ∷ xs) = (p ≤ place x) × Climbs place (place x) xs

pub climbs : {X : Type 0} (place : X → ℕ) (p : ℕ) (xs : List X) → ascends_from place p xs ≡ true → Climbs place p xs
climbs place p [] h = tt
climbs place p (x ∷ xs) h =
    let parts = and_parts (leb p (place x)) (ascends_from place (place x) xs) h in
    (leb-true p (place x) parts.0, climbs place (place x) xs parts.1)

pub ascends_is : {X : Type 0} (place : X → ℕ) (p : ℕ) (xs : List X) → Climbs place p xs → ascends_from place p xs ≡ true
ascends_is place p [] h = refl
ascends_is place p (x ∷ xs) h =
    and_from (leb p (place x)) (ascends_from place (place x) xs) (le-leb p (place x) h.0) (ascends_is place (place x) xs h.1)

pub climbs_lower : {X : Type 0} (place : X → ℕ) (p q : ℕ) (xs : List X) → p ≤ q → Climbs place q xs → Climbs place p xs
climbs_lower place p q [] l h = tt
climbs_lower place p q (x ∷ xs) l h = (omega (arith, h.0), h.1)

pub climbs_getD : {X : Type 0} (place : X → ℕ) (p : ℕ) (xs : List X) (d : X) (j : ℕ) → Climbs place p xs → j < length xs → p ≤ place (get_or xs j d)
climbs_getD place p [] d j h l = absurd (omega arith)
climbs_getD place p (x ∷ xs) d zero h l = h.0
climbs_getD place p (x ∷ xs) d (suc j) h l = omega (arith, h.0, climbs_getD place (place x) xs d j h.1 (omega arith))

climbs_pair : {X : Type 0} (place : X → ℕ) (p : ℕ) (xs : List X) (d : X) (i j : ℕ) → Climbs place p xs → i ≤ j → j < length xs → place (get_or xs i d) ≤ place (get_or xs j d)
climbs_pair place p [] d i j h l m = absurd (omega arith)
climbs_pair place p (x ∷ xs) d zero zero h l m = omega arith
climbs_pair place p (x ∷ xs) d (suc i) zero h l m = absurd (omega arith)
climbs_pair place p (x ∷ xs) d zero (suc j) h l m = climbs_getD place (place x) xs d j h.1 (omega arith)
climbs_pair place p (x ∷ xs) d (suc i) (suc j) h l m = climbs_pair place (place x) xs d i j h.1 (omega arith) (omega arith)

-- What the order in the type means, in the library's word and in the contracts'.
pub non_decreasing : {X : Type 0} (place : X → ℕ) (xs : List X) → ascends place xs ≡ true → IsNonDecreasingBy place xs
non_decreasing place xs h i j d l m = climbs_pair place 0 xs d i j (climbs place 0 xs h) l m

pub ascending : {X : Type 0} (place : X → ℕ) (xs : List X) → ascends place xs ≡ true → Ascending place xs
ascending place xs h d i j l m = non_decreasing place xs h i j d (omega arith) m

-- Up to an item whose place is not greater than b, no place is.
pub all_up_to : {X : Type 0} (place : X → ℕ) (p b : ℕ) (xs : List X) (d : X) (j : ℕ) → Climbs place p xs → j < length xs → place (get_or xs j d) ≤ b → AllByRecursion (λ y. place y ≤ b) (take (suc j) xs)
all_up_to place p b [] d j h l m = absurd (omega arith)
all_up_to place p b (x ∷ xs) d zero h l m = (m, tt)
all_up_to place p b (x ∷ xs) d (suc j) h l m =
    let more : place x ≤ place (get_or xs j d) = climbs_getD place (place x) xs d j h.1 (omega arith) in
    (omega arith, all_up_to place (place x) b xs d j h.1 (omega arith) m)

climbs_removed : {X : Type 0} (place : X → ℕ) (p : ℕ) (xs : List X) (i : ℕ) → Climbs place p xs → Climbs place p (remove xs i)
climbs_removed place p [] zero h = tt
climbs_removed place p [] (suc i) h = tt
climbs_removed place p (x ∷ xs) zero h = climbs_lower place p (place x) xs h.0 h.1
climbs_removed place p (x ∷ xs) (suc i) h = (h.0, climbs_removed place (place x) xs i h.1)

-- Without one item the places still ascend.
pub ascends_removed : {X : Type 0} (place : X → ℕ) (i : ℕ) (xs ys : List X) → ys ≡ remove xs i → ascends place xs ≡ true → ascends place ys ≡ true
ascends_removed place i xs ys e h = ap (ascends place) e ∙ ascends_is place 0 _ (climbs_removed place 0 xs i (climbs place 0 xs h))
