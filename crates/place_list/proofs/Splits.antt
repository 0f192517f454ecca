-- What follows where an item is put in behind those whose place is not greater.
use Rattle.std.proofs.Common.{◌≡◌, ℕ, ◌<◌, ◌≤◌, true, false, cond, eqb, ltb, List, [], ◌∷◌, ◌++◌, sym, refl, ap, ◌∙◌, subst, arith}
use Rattle.std.specs.List.{AllByRecursion}
use Rattle.std.proofs.lemmas.List.Elements.{filter-append}
use Rattle.std.proofs.lemmas.List.{append-nil, append_assoc}
use Rattle.std.proofs.lemmas.Bool.{cond-true, cond-false, lt-ltb, le-ltb, eqb-true, ne_eqb}
use Rattle.place_list.specs.Insertion.{ComesLast, PutIn, placed_in}
use Rattle.place_list.specs.Order.{ascends, at_place}
use Rattle.place_list.proofs.Ascents.{Climbs, climbs, ascends_is}

placed_between : {X : Type 0} (place : X → ℕ) (x : X) (before behind : List X) → AllByRecursion (λ y. place y ≤ place x) before → AllByRecursion (λ y. place x < place y) behind → placed_in place x (before ++ behind) ≡ before ++ x ∷ behind
placed_between place x [] [] h k = refl
placed_between place x [] (y ∷ ys) h k = cond-true (ltb (place x) (place y)) _ _ (lt-ltb (place x) (place y) k.0)
placed_between place x (y ∷ ys) behind h k =
    cond-false (ltb (place x) (place y)) _ _ (le-ltb (place x) (place y) h.0) ∙ ap (λ r. y ∷ r) (placed_between place x ys behind h.1 k)

-- The relation and the recursion say the same.
pub put_in_is : {X : Type 0} (place : X → ℕ) (x : X) (old new : List X) → PutIn place x old new → new ≡ placed_in place x old
put_in_is place x old new s =
    s.new_is ∙ (sym (placed_between place x s.before s.behind s.not_greater s.greater) ∙ ap (placed_in place x) (sym s.old_is))

climbs_raise : {X : Type 0} (place : X → ℕ) (p b : ℕ) (ys : List X) → Climbs place p ys → AllByRecursion (λ y. b < place y) ys → Climbs place b ys
climbs_raise place p b [] h k = tt
climbs_raise place p b (y ∷ ys) h k = (omega (arith, k.0), h.1)

climbs_between : {X : Type 0} (place : X → ℕ) (p : ℕ) (x : X) (before behind : List X) → p ≤ place x → Climbs place p (before ++ behind) → AllByRecursion (λ y. place y ≤ place x) before → AllByRecursion (λ y. place x < place y) behind → Climbs place p (before ++ x ∷ behind)
climbs_between place p x [] behind l h a b = (l, climbs_raise place p (place x) behind h b)
climbs_between place p x (y ∷ ys) behind l h a b = (h.0, climbs_between place (place y) x ys behind a.0 h.1 a.1 b)

-- The places still ascend.
pub ascends_put_in : {X : Type 0} (place : X → ℕ) (x : X) (old new : List X) → PutIn place x old new → ascends place old ≡ true → ascends place new ≡ true
ascends_put_in place x old new s h =
    let old-climbs : Climbs place 0 (s.before ++ s.behind) = climbs place 0 _ (ap (ascends place) (sym s.old_is) ∙ h) in
    ap (ascends place) s.new_is ∙ ascends_is place 0 _ (climbs_between place 0 x s.before s.behind (omega arith) old-climbs s.not_greater s.greater)

none_at : {X : Type 0} (place : X → ℕ) (p : ℕ) (ys : List X) → AllByRecursion (λ y. p < place y) ys → at_place place p ys ≡ []
none_at place p [] k = refl
none_at place p (y ∷ ys) k =
    cond-false (eqb (place y) p) _ _ (ne_eqb (place y) p (λ e. omega (arith, k.0))) ∙ none_at place p ys k.1

-- At its own place the item is the last; at any other place nothing changes.
last_there : {X : Type 0} (place : X → ℕ) (x : X) (behind : List X) (p : ℕ) → AllByRecursion (λ y. place x < place y) behind → at_place place p (x ∷ behind) ≡ at_place place p behind ++ at_place place p (x ∷ [])
last_there {X} place x behind p k =
    elim (eqb (place x) p) as (λ v. eqb (place x) p ≡ v → cond v (x ∷ at_place place p behind) (at_place place p behind) ≡ at_place place p behind ++ cond v (x ∷ []) []) [
      | true ↦ λ e.
          let none : at_place place p behind ≡ [] = subst (λ (q : ℕ). at_place place q behind ≡ []) (eqb-true (place x) p e) (none_at place (place x) behind k) in
          ap (λ (r : List X). x ∷ r) none ∙ sym (ap (λ (r : List X). r ++ x ∷ []) none)
      | false ↦ λ e. sym (append-nil (at_place place p behind))
    ] refl

pub comes_last : {X : Type 0} (place : X → ℕ) (x : X) (old new : List X) → PutIn place x old new → ComesLast place x old new
comes_last {X} place x old new s p =
    let b = at_place place p s.before in
    let k = at_place place p s.behind in
    let one = at_place place p (x ∷ []) in
    let is-new : at_place place p new ≡ b ++ at_place place p (x ∷ s.behind) = ap (at_place place p) s.new_is ∙ filter-append (λ y. eqb (place y) p) s.before (x ∷ s.behind) in
    let is-old : at_place place p old ≡ b ++ k = ap (at_place place p) s.old_is ∙ filter-append (λ y. eqb (place y) p) s.before s.behind in
    is-new ∙ (ap (λ (r : List X). b ++ r) (last_there place x s.behind p s.greater) ∙ (sym (append_assoc b k one) ∙ ap (λ (r : List X). r ++ one) (sym is-old)))
