-- What one more item, and one fewer, does to a list along the line.
use Rattle.std.proofs.Common.{◌≡◌, ℕ, ◌<◌, ◌≤◌, false, eqb, ltb, List, [], ◌∷◌, refl, inl, inr, arith}
use Rattle.std.proofs.lemmas.Bool.{cond_both, ltb-true, or_parts}
use Rattle.place_list.specs.Insertion.{placed_in}
use Rattle.place_list.specs.Membership.{In}
use Rattle.place_list.proofs.Members.{one_more_placed}
use Rattle.history.specs.State.{has_mark}
use Rattle.history.specs.Step.{without_mark}
use Rattle.history.proofs.Begun.{above_in}
use Rattle.history.proofs.Tracked.{Above, Ascends, Distinct, above_ascends}

module _ {X : Type 0} (place : X → ℕ) where
  above_placed : (p : ℕ) (x : X) (xs : List X) → Above place p xs → p < place x → has_mark place (place x) xs ≡ false → Above place p (placed_in place x xs)
  above_placed p x [] a l n = (l, tt)
  above_placed p x (y ∷ ys) a l n =
      let o = or_parts (eqb (place y) (place x)) (has_mark place (place x) ys) n in
      cond_both (ltb (place x) (place y)) (x ∷ y ∷ ys) (y ∷ placed_in place x ys) (Above place p)
      (λ e. (l, (ltb-true (place x) (place y) e, a.1)))
      (λ e. (a.0, above_placed (place y) x ys a.1 (grind arith) o.1))

  pub placed_ascends : (x : X) (xs : List X) → Ascends place xs → has_mark place (place x) xs ≡ false → Ascends place (placed_in place x xs)
  placed_ascends x [] a n = tt
  placed_ascends x (y ∷ ys) a n =
      let o = or_parts (eqb (place y) (place x)) (has_mark place (place x) ys) n in
      cond_both (ltb (place x) (place y)) (x ∷ y ∷ ys) (y ∷ placed_in place x ys) (Ascends place)
      (λ e. (ltb-true (place x) (place y) e, a))
      (λ e. above_placed (place y) x ys a (grind arith) o.1)

  pub ascends_distinct : (xs : List X) → Ascends place xs → Distinct place xs
  ascends_distinct [] a = tt
  ascends_distinct (x ∷ xs) a = ((λ y i e. omega (arith, above_in place (place x) xs a y i, e)), ascends_distinct xs (above_ascends place (place x) xs a))

  above_lower : (p q : ℕ) (xs : List X) → p ≤ q → Above place q xs → Above place p xs
  above_lower p q [] l a = tt
  above_lower p q (x ∷ xs) l a = (omega (arith, a.0), a.1)

  above_without : (n p : ℕ) (xs : List X) → Above place p xs → Above place p (without_mark place n xs)
  above_without n p [] a = tt
  above_without n p (x ∷ xs) a =
      cond_both (eqb (place x) n) xs (x ∷ without_mark place n xs) (Above place p)
      (λ e. above_lower p (place x) xs (omega (arith, a.0)) a.1)
      (λ e. (a.0, above_without n (place x) xs a.1))

  pub without_ascends : (n : ℕ) (xs : List X) → Ascends place xs → Ascends place (without_mark place n xs)
  without_ascends n [] a = tt
  without_ascends n (x ∷ xs) a =
      cond_both (eqb (place x) n) xs (x ∷ without_mark place n xs) (Ascends place)
      (λ e. above_ascends place (place x) xs a)
      (λ e. above_without n (place x) xs a)

module _ {X : Type 0} (mark : X → ℕ) where
  pub placed_distinct : (place : X → ℕ) (x : X) (xs : List X) → Distinct mark xs → ((y : X) → In y xs → mark y ≡ mark x → ⊥) → Distinct mark (placed_in place x xs)
  placed_distinct place x [] d n = (n, tt)
  placed_distinct place x (y ∷ ys) d n =
      cond_both (ltb (place x) (place y)) (x ∷ y ∷ ys) (y ∷ placed_in place x ys) (Distinct mark)
      (λ e. (n, d))
      (λ e. (
        (λ w i k. elim ((one_more_placed place x ys).only w i) [
          | inl j ↦ d.0 w j k
          | inr same ↦ n y (inl refl) (grind arith)
        ]),
        placed_distinct place x ys d.1 (λ w i k. n w (inr i) k),
      ))

  pub in_without : (n : ℕ) (xs : List X) (x : X) → In x xs → (mark x ≡ n → ⊥) → In x (without_mark mark n xs)
  in_without n [] x i d = absurd i
  in_without n (y ∷ ys) x i d =
      cond_both (eqb (mark y) n) ys (y ∷ without_mark mark n ys) (In x)
      (λ e. grind arith)
      (λ e. elim i [ inl k ↦ inl k | inr j ↦ inr (in_without n ys x j d) ])

  pub without_in : (n : ℕ) (xs : List X) → Distinct mark xs → (x : X) → In x (without_mark mark n xs) → In x xs × (mark x ≡ n → ⊥)
  without_in n [] d x i = absurd i
  without_in n (y ∷ ys) d x i =
      cond_both (eqb (mark y) n) ys (y ∷ without_mark mark n ys) (λ (l : List X). In x l → In x (y ∷ ys) × (mark x ≡ n → ⊥))
      (λ e i. grind arith)
      (λ e i. elim i [
        | inl k ↦ grind arith
        | inr j ↦ let w = without_in n ys d.1 x j in (inr w.0, w.1)
      ]) i

  pub without_distinct : (n : ℕ) (xs : List X) → Distinct mark xs → Distinct mark (without_mark mark n xs)
  without_distinct n [] d = tt
  without_distinct n (y ∷ ys) d =
      cond_both (eqb (mark y) n) ys (y ∷ without_mark mark n ys) (Distinct mark)
      (λ e. d.1)
      (λ e. ((λ w i k. d.0 w (without_in n ys d.1 w i).0 k), without_distinct n ys d.1))
