-- Putting an item in moves those from where it is to stand one further, and writes it there.
use Rattle.std.proofs.Common.{◌≡◌, ℕ, zero, suc, ◌+◌, ◌-◌, ◌<◌, ◌≤◌, true, List, [], ◌∷◌, ◌++◌, length, get_or, take, drop, set, sym, ap, ◌∙◌, subst, arith}
use borrow.Rule.Slice.PartMut.{mid_of, post_of, put_mid}
use Rattle.std.specs.List.{AllByRecursion, insert, slice_rotate_right}
use Rattle.std.proofs.ByRecursion.{All-from_get_or}
use Rattle.std.proofs.lemmas.List.{append_assoc, append-nil, drop_all, drop_at, get_or-drop, length-append, length-drop, length-take-le, set_split, take-append-drop, take_at, take-take}
use Rattle.std.proofs.lemmas.List.Edits.{length-insert}
use Rattle.std.proofs.lemmas.Slice.{between_is, take-put_mid_below}
use Rattle.place_list.specs.Insertion.{PutIn}
use Rattle.place_list.specs.Order.{ascends}
use Rattle.place_list.specs.Position.{GreaterFrom, NotGreaterBefore}
use Rattle.place_list.proofs.Ascents.{all_up_to, climbs}

-- The items from the index a on are moved on by one, the last over the first of them, and x is written there.
pub put_over : {X : Type 0} (x : X) (a : ℕ) (xs ys : List X) → a < length xs → ys ≡ slice_rotate_right (mid_of a (length xs - a) xs) 1 → set (put_mid a (length xs - a) xs ys) a x ≡ insert (take (length xs - 1) xs) a x
put_over {X} x a xs ys l e =
    let n = length xs in
    let m = mid_of a (n - a) xs in
    let post = post_of a (n - a) xs in
    let moved = put_mid a (n - a) xs ys in
    let some : length (drop a xs) ≡ n - a = length-drop a xs in
    let all : length m ≡ n - a = length-take-le (n - a) (drop a xs) (omega arith) in
    let first = take a xs ++ drop (length m - 1) m in
    let rest = take (length m - 1) m in
    let split : moved ≡ first ++ (rest ++ post) =
    ap (λ (s : List X). take a xs ++ (s ++ post)) e ∙ (ap (λ (s : List X). take a xs ++ s) (append_assoc (drop (length m - 1) m) rest post) ∙ sym (append_assoc (take a xs) (drop (length m - 1) m) (rest ++ post))) in
    let before : length (take a xs) ≡ a = length-take-le a xs (omega arith) in
    let last : length (drop (length m - 1) m) ≡ length m - (length m - 1) = length-drop (length m - 1) m in
    let one : length first ≡ suc a = length-append (take a xs) (drop (length m - 1) m) ∙ omega arith in
    let whole : length moved ≡ suc a + length (rest ++ post) = ap length split ∙ (length-append first (rest ++ post) ∙ omega arith) in
    let none : post ≡ [] = drop_all (n - a) (drop a xs) (omega arith) in
    let count : length m - 1 ≡ n - 1 - a = omega arith in
    let back : drop (suc a) moved ≡ drop a (take (n - 1) xs) =
    ap (drop (suc a)) split ∙ (drop_at first (rest ++ post) (suc a) one ∙ (ap (λ (s : List X). rest ++ s) none ∙ (append-nil rest
    ∙ (ap (λ k. take k m) count ∙ (take-take (n - 1 - a) (n - a) (drop a xs) (omega arith) ∙ between_is xs a (n - 1)))))) in
    let front : take a moved ≡ take a (take (n - 1) xs) = take-put_mid_below a (n - a) xs ys a (omega arith) (omega arith) ∙ sym (take-take a (n - 1) xs (omega arith)) in
    set_split moved a x (omega arith)
    ∙ (ap (λ (s : List X). s ++ x ∷ drop (suc a) moved) front ∙ ap (λ (s : List X). take a (take (n - 1) xs) ++ x ∷ s) back)

-- The items are one more then.
length_put : {X : Type 0} (x : X) (n i : ℕ) (old : List X) → i ≤ n → n ≤ length old → length (insert (take n old) i x) ≡ n + 1
length_put x n i old l m =
    let whole : length (take n old) ≡ n = length-take-le n old m in
    length-insert (take n old) i x (omega arith) ∙ omega arith

pub first_put : {X : Type 0} (x : X) (n i : ℕ) (old new : List X) → i ≤ n → n < length old → new ≡ insert (take n old) i x ++ drop (n + 1) old → take (n + 1) new ≡ insert (take n old) i x
first_put x n i old new l m e =
    ap (take (n + 1)) e ∙ take_at _ (drop (n + 1) old) (n + 1) (length_put x n i old l (omega arith))

pub rest_put : {X : Type 0} (x : X) (n i : ℕ) (old new : List X) → i ≤ n → n < length old → new ≡ insert (take n old) i x ++ drop (n + 1) old → drop (n + 1) new ≡ drop (n + 1) old
rest_put x n i old new l m e =
    ap (drop (n + 1)) e ∙ drop_at _ (drop (n + 1) old) (n + 1) (length_put x n i old l (omega arith))

pub whole_put : {X : Type 0} (x : X) (n i : ℕ) (old new : List X) → i ≤ n → n < length old → new ≡ insert (take n old) i x ++ drop (n + 1) old → length new ≡ length old
whole_put x n i old new l m e =
    let rest : length (drop (n + 1) old) ≡ length old - (n + 1) = length-drop (n + 1) old in
    let put : length (insert (take n old) i x) ≡ n + 1 = length_put x n i old l (omega arith) in
    ap length e ∙ (length-append (insert (take n old) i x) (drop (n + 1) old) ∙ omega arith)

-- Where the item before the index is not greater, none before it is.
none_greater : {X : Type 0} (place : X → ℕ) (p i : ℕ) (items : List X) (d : X) → i ≤ length items → NotGreaterBefore place p i items → ascends place items ≡ true → AllByRecursion (λ z. place z ≤ p) (take i items)
none_greater place p zero items d l before h = tt
none_greater {X} place p (suc j) items d l before h =
    let one : suc j - 1 ≡ j = omega arith in
    all_up_to place 0 p items d j (climbs place 0 items h) (omega arith) (subst (λ (k : ℕ). place (get_or items k d) ≤ p) one (before d (omega arith)))

all_greater : {X : Type 0} (place : X → ℕ) (p i : ℕ) (items : List X) (d : X) → i ≤ length items → GreaterFrom place p i items → AllByRecursion (λ z. p < place z) (drop i items)
all_greater {X} place p i items d l behind =
    let some : length (drop i items) ≡ length items - i = length-drop i items in
    All-from_get_or (λ z. p < place z) (drop i items) d
    (λ k h. subst (λ (v : X). p < place v) (sym (get_or-drop i items k d)) (behind d (i + k) (omega arith) (omega arith)))

-- The item is put in as it should be.
pub put_in : {X : Type 0} (place : X → ℕ) (x : X) (i : ℕ) (items new : List X) → i ≤ length items → NotGreaterBefore place (place x) i items → GreaterFrom place (place x) i items → ascends place items ≡ true → new ≡ insert items i x → PutIn place x items new
put_in place x i items new l before behind h e = record {
  before = take i items;
  behind = drop i items;
  old_is = sym (take-append-drop i items);
  new_is = e;
  not_greater = none_greater place (place x) i items x l before h;
  greater = all_greater place (place x) i items x l behind;
}
