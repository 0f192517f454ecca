-- Sequences that differ by one item have the same members but for it.
use Rattle.std.proofs.Common.{◌≡◌, ℕ, zero, suc, ◌<◌, ltb, ◌⊎◌, ◌≢◌, Option, Some, None, MatchOption, List, [], ◌∷◌, ◌++◌, length, get_or, sym, refl, subst, inl, inr, arith}
use Rattle.std.proofs.lemmas.Bool.{cond_both}
use Rattle.std.specs.List.{AllWithin, HoldsAt}
use Rattle.place_list.specs.Finding.{Found}
use Rattle.place_list.specs.Insertion.{placed_in}
use Rattle.place_list.specs.Membership.{In, OneMore}

in_middle : {X : Type 0} (x : X) (front back : List X) → In x (front ++ x ∷ back)
in_middle x [] back = inl refl
in_middle x (z ∷ zs) back = inr (in_middle x zs back)

in_more : {X : Type 0} (x y : X) (front back : List X) → In y (front ++ back) → In y (front ++ x ∷ back)
in_more x y [] back h = inr h
in_more x y (z ∷ zs) back (inl e) = inl e
in_more x y (z ∷ zs) back (inr h) = inr (in_more x y zs back h)

in_only : {X : Type 0} (x y : X) (front back : List X) → In y (front ++ x ∷ back) → In y (front ++ back) ⊎ (y ≡ x)
in_only x y [] back (inl e) = inr e
in_only x y [] back (inr h) = inl h
in_only x y (z ∷ zs) back (inl e) = inl (inl e)
in_only x y (z ∷ zs) back (inr h) = elim (in_only x y zs back h) [ inl k ↦ inl (inr k) | inr e ↦ inr e ]

one_more_at : {X : Type 0} (x : X) (front back : List X) → OneMore x (front ++ back) (front ++ x ∷ back)
one_more_at x front back = record {
  it = in_middle x front back;
  rest = λ y h. in_more x y front back h;
  only = λ y h. in_only x y front back h;
}

pub one_more : {X : Type 0} (x : X) (front back less more : List X) → less ≡ front ++ back → more ≡ front ++ x ∷ back → OneMore x less more
one_more {X} x front back less more e f =
    subst (λ (l : List X). OneMore x l more) (sym e) (subst (λ (m : List X). OneMore x (front ++ back) m) (sym f) (one_more_at x front back))

-- Put in by its place, whether the places ascend or not, an item is one more.
module _ {X : Type 0} (place : X → ℕ) (x : X) where
  placed_it : (xs : List X) → In x (placed_in place x xs)
  placed_it [] = inl refl
  placed_it (y ∷ ys) = cond_both (ltb (place x) (place y)) (x ∷ y ∷ ys) (y ∷ placed_in place x ys) (In x) (λ e. inl refl) (λ e. inr (placed_it ys))

  placed_rest : (xs : List X) (z : X) → In z xs → In z (placed_in place x xs)
  placed_rest [] z i = absurd i
  placed_rest (y ∷ ys) z i = cond_both (ltb (place x) (place y)) (x ∷ y ∷ ys) (y ∷ placed_in place x ys) (In z) (λ e. inr i) (λ e. elim i [ inl k ↦ inl k | inr j ↦ inr (placed_rest ys z j) ])

  placed_only : (xs : List X) (z : X) → In z (placed_in place x xs) → In z xs ⊎ (z ≡ x)
  placed_only [] z i = elim i [ inl k ↦ inr k | inr j ↦ absurd j ]
  placed_only (y ∷ ys) z i = cond_both (ltb (place x) (place y)) (x ∷ y ∷ ys) (y ∷ placed_in place x ys) (λ (l : List X). In z l → In z (y ∷ ys) ⊎ (z ≡ x))
      (λ e i. elim i [ inl k ↦ inr k | inr j ↦ inl j ])
      (λ e i. elim i [ inl k ↦ inl (inl k) | inr j ↦ elim (placed_only ys z j) [ inl m ↦ inl (inr m) | inr k ↦ inr k ] ]) i

  pub one_more_placed : (xs : List X) → OneMore x xs (placed_in place x xs)
  one_more_placed xs = record { it = placed_it xs; rest = placed_rest xs; only = placed_only xs }

-- A fact of the item at each index is one of each item that stands in the sequence.
pub of_each : {X : Type 0} (P : X → Type 0) (xs : List X) → ((d : X) (k : ℕ) → k < length xs → P (get_or xs k d)) → (y : X) → In y xs → P y
of_each {X} P [] h y k = elim k [ ]
of_each {X} P (x ∷ xs) h y (inl e) = subst P (sym e) (h x zero (omega arith))
of_each {X} P (x ∷ xs) h y (inr k) = of_each P xs (λ d j l. h d (suc j) (omega arith)) y k

-- The first index at which the mark is n, as the library finds it.
pub found_first : {X : Type 0} (mark : X → ℕ) (n : ℕ) (xs : List X) (r : Option ℕ) →
    MatchOption r (AllWithin (λ y. mark y ≢ n) xs 0 (length xs)) (λ i. (i < length xs) × HoldsAt (λ y. mark y ≡ n) xs i × AllWithin (λ y. mark y ≢ n) xs 0 i) → Found mark n xs r
found_first mark n xs (Some i) h = record { within = h.0; here = h.1; none_before = λ d k l. h.2 k d (omega arith) l }
found_first {X} mark n xs None h = of_each (λ (y : X). mark y ≢ n) xs (λ d k l. h k d (omega arith) l)
