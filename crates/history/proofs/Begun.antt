-- The last item of an ascending list that begins up to a place, and the value that holds there.
use Rattle.std.proofs.Common.{◌≡◌, ℕ, ◌<◌, ◌≤◌, leb, ◌⊎◌, List, [], ◌∷◌, sym, refl, ap, ◌∙◌, inl, inr, arith}
use Rattle.std.proofs.lemmas.Bool.{cond_both, leb-true, leb-false}
use Rattle.place_list.specs.Membership.{In}
use Rattle.history.specs.History.{LastUpTo}
use Rattle.history.specs.Zones.{held_at}
use Rattle.history.proofs.Tracked.{Above, Ascends, above_ascends}

module _ {X : Type 0} (place : X → ℕ) where
  pub above_in : (p : ℕ) (xs : List X) → Above place p xs → (y : X) → In y xs → p < place y
  above_in p [] h y i = absurd i
  above_in p (x ∷ xs) h y (inl e) = grind arith
  above_in p (x ∷ xs) h y (inr i) = omega (arith, h.0, above_in (place x) xs h.1 y i)

  -- x is the last of the list that begins up to p.
  abbrev pub LastBegun : List X → ℕ → X → Type 0
  LastBegun xs p x = LastUpTo (λ (y : X). In y xs) place p x

  -- A place has one item.
  one_item : (xs : List X) → Ascends place xs → (x y : X) → In x xs → In y xs → place x ≡ place y → x ≡ y
  one_item [] a x y i j e = absurd i
  one_item (z ∷ zs) a x y (inl i) (inl j) e = i ∙ sym j
  one_item (z ∷ zs) a x y (inl i) (inr j) e = grind (arith, above_in (place z) zs a y j)
  one_item (z ∷ zs) a x y (inr i) (inl j) e = grind (arith, above_in (place z) zs a x i)
  one_item (z ∷ zs) a x y (inr i) (inr j) e = one_item zs (above_ascends place (place z) zs a) x y i j e

  pub one_last : (xs : List X) (p : ℕ) (x y : X) → Ascends place xs → LastBegun xs p x → LastBegun xs p y → x ≡ y
  one_last xs p x y a v w =
      let up : place y ≤ place x = v.last y w.stands w.begun in
      let down : place x ≤ place y = w.last x v.stands v.begun in
      one_item xs a x y v.stands w.stands (omega arith)

  module _ {V : Type 0} (value : X → V) where
    -- What holds at p is the value of the last that begins up to it, and d where each begins further on.
    abbrev pub ValueIn : V → List X → ℕ → V → Type 0
    ValueIn d xs p v = ((x : X) × LastBegun xs p x × (value x ≡ v)) ⊎ (((y : X) → In y xs → p < place y) × (v ≡ d))

    -- What holds of the rest holds of the whole, once the first has begun.
    begun : (d : V) (x : X) (xs : List X) (p : ℕ) (v : V) → Above place (place x) xs → place x ≤ p → ValueIn (value x) xs p v → ValueIn d (x ∷ xs) p v
    begun d x xs p v a l (inl w) =
        let above : place x < place w.0 = above_in (place x) xs a w.0 w.1.stands in
        inl (w.0, record { stands = inr w.1.stands; begun = w.1.begun; last = λ y i k. elim i [ inl e ↦ grind arith | inr j ↦ w.1.last y j k ] }, w.2)
    begun d x xs p v a l (inr w) =
        inl (x, record { stands = inl refl; begun = l; last = λ y i k. elim i [ inl e ↦ grind arith | inr j ↦ absurd (omega (arith, w.0 y j, k)) ] }, sym w.1)

    pub held_is : (d : V) (xs : List X) (p : ℕ) → Ascends place xs → ValueIn d xs p (held_at place value d xs p)
    held_is d [] p a = inr ((λ y i. absurd i), refl)
    held_is d (x ∷ xs) p a =
        cond_both (leb (place x) p) (held_at place value (value x) xs p) d (λ (v : V). ValueIn d (x ∷ xs) p v)
        (λ e. begun d x xs p _ a (leb-true (place x) p e) (held_is (value x) xs p (above_ascends place (place x) xs a)))
        (λ e. let l : p < place x = leb-false (place x) p e in
        inr ((λ y i. elim i [ inl k ↦ grind arith | inr j ↦ omega (arith, above_in (place x) xs a y j) ]), refl))

    pub held_one : (d : V) (xs : List X) (p : ℕ) (v w : V) → Ascends place xs → ValueIn d xs p v → ValueIn d xs p w → v ≡ w
    held_one d xs p v w a (inl s) (inl t) = sym s.2 ∙ (ap value (one_last xs p s.0 t.0 a s.1 t.1) ∙ t.2)
    held_one d xs p v w a (inl s) (inr t) = absurd (omega (arith, t.0 s.0 s.1.stands, s.1.begun))
    held_one d xs p v w a (inr s) (inl t) = absurd (omega (arith, s.0 t.0 t.1.stands, t.1.begun))
    held_one d xs p v w a (inr s) (inr t) = s.1 ∙ sym t.1
