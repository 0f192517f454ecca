-- Folds over the first items of a list, item by item.
use Rattle.std.proofs.Common.{◌≡◌, suc, Bool, true, false, cond, List, ◌∷◌, take, refl, ap, arith}
use Rattle.std.specs.List.{fold, prefix_len}

module _ {X A V : Type 0} (inside : X → Bool) (f : A → X → A) (value : A → V) where
  -- the fold over the items up to the first that is not inside, and what value makes of it
  abbrev pub folded : A → List X → V
  folded a xs = value (fold f a (take (prefix_len inside xs) xs))

  by_test : (a : A) (x : X) (xs : List X) (b : Bool) → inside x ≡ b → folded a (x ∷ xs) ≡ cond b (folded (f a x) xs) (value a)
  by_test a x xs true e =
      let m : prefix_len inside (x ∷ xs) ≡ suc (prefix_len inside xs) = rw e (omega arith) in
      ap (λ n. value (fold f a (take n (x ∷ xs)))) m
  by_test a x xs false e = rw e refl

  -- an item inside joins the fold, one that is not ends it
  pub folded_one : (a : A) (x : X) (xs : List X) → folded a (x ∷ xs) ≡ cond (inside x) (folded (f a x) xs) (value a)
  folded_one a x xs = by_test a x xs (inside x) refl
