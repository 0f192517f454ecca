-- Where an item is found in a list whose places ascend.
use Rattle.std.proofs.Common.{◌≡◌, ℕ, ◌<◌, ◌≤◌, Bool, true, false, eqb, List, length, None, get_or, sym, inl, inr, arith}
use Rattle.std.specs.Bool.{then_some}
use Rattle.std.specs.List.Sorted.{IsNonDecreasingBy}
use Rattle.std.proofs.lemmas.Bool.{cases_lt, eqb-true, eqb-false}
use Rattle.place_list.specs.Finding.{Found}
use Rattle.place_list.proofs.Members.{of_each}

-- Before the index i the places are less than p, and from it on they are not.
pub record Parted {X : Type 0} (place : X → ℕ) (p i : ℕ) (xs : List X) : Type 0 where
  pub order : IsNonDecreasingBy place xs
  pub bound : i ≤ length xs
  pub less : (d : X) (k : ℕ) → k < i → place (get_or xs k d) < p
  pub not_less : (d : X) (k : ℕ) → i ≤ k → k < length xs → p ≤ place (get_or xs k d)

-- Where the item at the index is not at p, none is.
pub none_there : {X : Type 0} (place : X → ℕ) (p i : ℕ) (xs : List X) → Parted place p i xs → ((d : X) → i < length xs → place (get_or xs i d) ≡ p → ⊥) → Found place p xs None
none_there place p i xs w other = of_each (λ y. place y ≡ p → ⊥) xs
    (λ d k l e. elim (cases_lt k i) [
      | inl before ↦ omega (arith, w.less d k before)
      | inr behind ↦ other d (omega arith) (omega (arith, w.order i k d behind l, w.not_less d i (omega arith) (omega arith)))
    ])

-- Whether p stands at the index tells whether and where it is found.
pub found_there : {X : Type 0} (place : X → ℕ) (p i : ℕ) (xs : List X) (b : Bool) → Parted place p i xs → i < length xs → ((d : X) → b ≡ eqb (place (get_or xs i d)) p) → Found place p xs (then_some b i)
found_there place p i xs true w l e = record {
  within = l;
  here = λ d. eqb-true _ p (sym (e d));
  none_before = λ d k m q. omega (arith, w.less d k m);
}
found_there place p i xs false w l e = none_there place p i xs w (λ d m q. eqb-false _ p (sym (e d)) q)
