-- Taking an item out moves each item behind it one place to the front.
use Rattle.std.proofs.Common.{◌≡◌, ℕ, suc, ◌+◌, ◌-◌, ◌<◌, ◌≤◌, eqb, List, [], ◌∷◌, ◌++◌, length, get_or, take, drop, sym, ap, ◌∙◌, add-one, arith}
use Rattle.std.specs.List.{copy_within, remove}
use Rattle.std.proofs.lemmas.List.Edits.{drop-paste, take-paste}
use Rattle.std.proofs.lemmas.Slice.{between_is}
use Rattle.std.proofs.lemmas.List.Elements.{filter-append}
use Rattle.std.proofs.lemmas.List.{length-drop, drop_more, length-take-le, take-append-drop, take-take}
use Rattle.place_list.specs.Membership.{OneMore}
use Rattle.place_list.specs.Order.{at_place}
use Rattle.place_list.specs.Removal.{KeepsTurns, TakenFrom}
use Rattle.place_list.proofs.Members.{one_more}

-- The items behind the index at, copied over it one to the front: what is left, and what stands behind it.
pub left_over : {X : Type 0} (n at : ℕ) (old new : List X) → at < n → n ≤ length old → new ≡ copy_within old (at + 1) n at → take (n - 1) new ≡ remove (take n old) at
left_over n at old new l m e =
    let count : at + (n - (at + 1)) ≡ n - 1 = omega arith in
    let some : length (drop (at + 1) old) ≡ length old - (at + 1) = length-drop (at + 1) old in
    let front : take at (take n old) ≡ take at old = take-take at n old (omega arith) in
    let back : drop (suc at) (take n old) ≡ take (n - (at + 1)) (drop (at + 1) old) =
    ap (λ k. drop k (take n old)) (sym (add-one at)) ∙ sym (between_is old (at + 1) n) in
    let whole = take-paste old at (drop (at + 1) old) (n - (at + 1)) (omega arith) (omega arith) in
    ap (take (n - 1)) e ∙ (ap (λ k. take k (copy_within old (at + 1) n at)) (sym count) ∙ (whole ∙ (ap (λ xs. xs ++ take (n - (at + 1)) (drop (at + 1) old)) (sym front) ∙ ap (λ xs. take at (take n old) ++ xs) (sym back))))

pub behind_left : {X : Type 0} (n at : ℕ) (old new : List X) → at < n → n ≤ length old → new ≡ copy_within old (at + 1) n at → drop (n - 1) new ≡ drop (n - 1) old
behind_left n at old new l m e =
    let count : at + (n - (at + 1)) ≡ n - 1 = omega arith in
    let some : length (drop (at + 1) old) ≡ length old - (at + 1) = length-drop (at + 1) old in
    ap (drop (n - 1)) e ∙ (ap (λ k. drop k (copy_within old (at + 1) n at)) (sym count) ∙ (drop-paste old at (drop (at + 1) old) (n - (at + 1)) (omega arith) (omega arith) ∙ ap (λ k. drop k old) count))

-- The item x stood at the index.
pub taken_from : {X : Type 0} (i : ℕ) (x : X) (old new : List X) → i < length old → x ≡ get_or old i x → new ≡ remove old i → TakenFrom i x old new
taken_from {X} i x old new l e n = record {
  before = take i old;
  behind = drop (suc i) old;
  old_is =
      sym (take-append-drop i old) ∙ (ap (λ (s : List X). take i old ++ s) (drop_more old i x l) ∙ (ap (λ (v : X). take i old ++ v ∷ drop (i + 1) old) (sym e) ∙ ap (λ (k : ℕ). take i old ++ x ∷ drop k old) (add-one i)));
  new_is = n;
  index = length-take-le i old (omega arith);
}

pub taken_one : {X : Type 0} (i : ℕ) (x : X) (old new : List X) → TakenFrom i x old new → OneMore x new old
taken_one i x old new t = one_more x t.before t.behind new old t.new_is t.old_is

pub taken_turns : {X : Type 0} (place : X → ℕ) (i : ℕ) (x : X) (old new : List X) → TakenFrom i x old new → KeepsTurns place x old new
taken_turns {X} place i x old new t p =
    let is = λ (y : X). eqb (place y) p in
    record {
      before = at_place place p t.before;
      behind = at_place place p t.behind;
      old_is =
          ap (at_place place p) t.old_is ∙ (filter-append is t.before (x ∷ t.behind) ∙ ap (λ (s : List X). at_place place p t.before ++ s) (filter-append is (x ∷ []) t.behind));
      new_is = ap (at_place place p) t.new_is ∙ filter-append is t.before t.behind;
    }
