-- What is found, put in and taken out of a list, seen as items over plain numbers.
use Rattle.std.proofs.Common.{◌≡◌, ℕ, ◌<◌, ◌≤◌, length, zero, suc, Bool, true, false, cond, ◌||◌, eqb, ltb, List, [], ◌∷◌, map, Some, None, Ok, Err, Option, Result, is_some, sym, refl, ap, ◌∙◌, arith}
use Rattle.std.specs.Prelude.{IfSome}
use Rattle.std.specs.List.{remove}
use Rattle.std.proofs.lemmas.Bool.{eq-eqb, ne_eqb}
use Rattle.place_list.specs.Finding.{FirstAt, Found}
use Rattle.place_list.specs.Insertion.{placed_in}
use Rattle.place_list.specs.Places.{place_of}
use Rattle.place_list.specs.Sequence.{Kept, Unaltered, capacity, sequence}
use Rattle.place_list.specs.declared.list.PlaceList.{PlaceList}
use Rattle.place_list.specs.declared.placed.Placed.{Placed}
use Rattle.units.specs.declared.quantities.Grade.{Grade}
use Rattle.units.specs.declared.quantities.Speed.{Speed}
use Rattle.calls.specs.declared.refusal.Refusal.{Refusal}
use Rattle.history.specs.History.{Section, SpeedCeiling, Target}
use Rattle.history.specs.State.{Listed, Track, has_mark}
use Rattle.history.specs.Step.{Ground, adding_obstacles, first, taking_obstacles, with_item, without_item, without_mark}
use Rattle.history.proofs.Tracked.{has_mark-false}
use Rattle.supervision.specs.Adding.{Added, Taken, list_of}
use Rattle.supervision.specs.Items.{ceiling_of, section_of, target_of}
use Rattle.supervision.specs.Lists.{track_of}
use Rattle.supervision.specs.declared.lists.Lists.{Lists}
use Rattle.supervision.specs.declared.target.Target.{Target as TargetItem}

-- The same by the items' own marks as by those of what they stand for.
has_mark-map : {X Y : Type 0} (f : X → Y) (mark : Y → ℕ) (n : ℕ) (xs : List X) → has_mark mark n (map f xs) ≡ has_mark (λ (x : X). mark (f x)) n xs
has_mark-map f mark n [] = refl
has_mark-map f mark n (x ∷ xs) = ap (λ (b : Bool). eqb (mark (f x)) n || b) (has_mark-map f mark n xs)

map_placed : {X Y : Type 0} (f : X → Y) (place : Y → ℕ) (x : X) (xs : List X) →
    map f (placed_in (λ (y : X). place (f y)) x xs) ≡ placed_in place (f x) (map f xs)
map_placed f place x [] = refl
map_placed {X} f place x (y ∷ ys) =
    elim (ltb (place (f x)) (place (f y))) as (λ b. map f (cond b (x ∷ y ∷ ys) (y ∷ placed_in (λ (z : X). place (f z)) x ys)) ≡ cond b (f x ∷ f y ∷ map f ys) (f y ∷ placed_in place (f x) (map f ys)))
    [ true ↦ refl | false ↦ ap (λ l. f y ∷ l) (map_placed f place x ys) ]

rest_first : {X : Type 0} (mark : X → ℕ) (n : ℕ) (x : X) (xs : List X) (i : ℕ) → FirstAt mark n (x ∷ xs) (suc i) → FirstAt mark n xs i
rest_first mark n x xs i h = record { within = omega (arith, h.within); here = λ d. h.here d; none_before = λ d k l. h.none_before d (suc k) (omega arith) }

first-has_mark : {X : Type 0} (mark : X → ℕ) (n : ℕ) (xs : List X) (i : ℕ) → FirstAt mark n xs i → has_mark mark n xs ≡ true
first-has_mark mark n [] i h = absurd (omega (arith, h.within))
first-has_mark mark n (x ∷ xs) zero h = let e : eqb (mark x) n ≡ true = eq-eqb (mark x) n (h.here x) in rw e
first-has_mark mark n (x ∷ xs) (suc i) h =
    let e : eqb (mark x) n ≡ false = ne_eqb (mark x) n (h.none_before x 0 (omega arith)) in
    rw e (first-has_mark mark n xs i (rest_first mark n x xs i h))

removed_without : {X Y : Type 0} (f : X → Y) (mark : Y → ℕ) (n : ℕ) (xs : List X) (i : ℕ) → FirstAt (λ (x : X). mark (f x)) n xs i → map f (remove xs i) ≡ without_mark mark n (map f xs)
removed_without f mark n [] i h = absurd (omega (arith, h.within))
removed_without f mark n (x ∷ xs) zero h = let e : eqb (mark (f x)) n ≡ true = eq-eqb (mark (f x)) n (h.here x) in rw e
removed_without f mark n (x ∷ xs) (suc i) h =
    let e : eqb (mark (f x)) n ≡ false = ne_eqb (mark (f x)) n (h.none_before x 0 (omega arith)) in
    rw e (ap (λ l. f x ∷ l) (removed_without f mark n xs i (rest_first (λ x. mark (f x)) n x xs i h)))

-- An item is found with the mark exactly where one has it.
found-has_mark : {X : Type 0} (mark : X → ℕ) (n : ℕ) (xs : List X) (r : Option ℕ) → Found mark n xs r → has_mark mark n xs ≡ is_some r
found-has_mark mark n xs (Some i) h = first-has_mark mark n xs i h
found-has_mark mark n xs None h = has_mark-false mark n xs h

pub same_list : {T : Type 0} (l : PlaceList T) → Unaltered l l
same_list l = record { sequence_same = refl; room_same = refl; memory_same = refl }

pub kept_list : {T : Type 0} (l : PlaceList T) → Kept l l
kept_list l = record { max_len_same = refl; length_same = refl; loan_same = refl; rest_same = refl }

-- As many items fit as before.
pub capacity_kept : {T : Type 0} (n : ℕ) (before after : PlaceList T) → Kept before after → capacity before ≤ n → capacity after ≤ n
capacity_kept n before after k h = let max_len = k.max_len_same in let memory = k.length_same in omega arith

pub added_kept : {T : Type 0} (b : Bool) (x : Placed T) (before after : PlaceList T) (r : Result (Unit {0}) Refusal) → Added b x before after r → Kept before after
added_kept b x before after (Ok u) w = w.3
added_kept b x before after (Err e) w = w.2

pub taken_kept : {T : Type 0} (found : Option ℕ) (before after : PlaceList T) (r : Result (Unit {0}) Refusal) → Taken found before after r → Kept before after
taken_kept (Some i) before after (Ok u) w = w.2
taken_kept (Some i) before after (Err e) w = absurd w
taken_kept None before after (Ok u) w = absurd w
taken_kept None before after (Err e) w = w.2

-- A list by its parts, and a track.
abbrev listing : {X : Type 0} → List X → ℕ → Listed X
listing xs n = record { items = xs; room = n }

pub same_listing : {X : Type 0} {xs ys : List X} {n m : ℕ} → xs ≡ ys → n ≡ m → listing xs n ≡ listing ys m
same_listing {X} {xs} {ys} {n} {m} e f = ap (λ (l : List X). listing l n) e ∙ ap (λ (k : ℕ). listing ys k) f

abbrev tracking : Listed Section → Listed Target → Listed SpeedCeiling → Track
tracking s t c = record { sections = s; targets = t; ceilings = c }

pub same_tracking : {s s' : Listed Section} {t t' : Listed Target} {c c' : Listed SpeedCeiling} → s ≡ s' → t ≡ t' → c ≡ c' → tracking s t c ≡ tracking s' t' c'
same_tracking {s} {s'} {t} {t'} {c} {c'} e f g =
    ap (λ (x : Listed Section). tracking x t c) e ∙ (ap (λ (x : Listed Target). tracking s' x c) f ∙ ap (λ (x : Listed SpeedCeiling). tracking s' t' x) g)

-- In a list of targets the number n was found there, or nowhere.
abbrev pub FoundNumber : ℕ → PlaceList TargetItem → Option ℕ → Type 0
FoundNumber n l r = Found (λ (y : Placed TargetItem). y.item.number) n (sequence l) r

-- What was found stands in the list.
pub found_within : {X : Type 0} (mark : X → ℕ) (n : ℕ) (xs : List X) (found : Option ℕ) → Found mark n xs found → IfSome found (λ i. i < length xs)
found_within mark n xs (Some i) f = f.within
found_within mark n xs None f = tt

-- What changes in one list, each of its items as what it stands for.
abbrev pub ListChanges : {T X : Type 0} → (Placed T → X) → List Ground → Listed X → (before after : PlaceList T) → Result (Unit {0}) Refusal → Type 0
ListChanges meant grounds changed before after (Ok _) = (first grounds ≡ None) × (list_of meant after ≡ changed) × Kept before after
ListChanges meant grounds changed before after (Err r) = (first grounds ≡ Some r) × Unaltered before after × Kept before after

-- Where an item is added nothing stood in its way.
not_taken : {X : Type 0} (taken : Bool) (l : Listed X) → first (adding_obstacles taken l) ≡ None → taken ≡ false
not_taken true l e = grind arith
not_taken false l e = refl

module _ {T X : Type 0} (meant : Placed T → X) (place mark : X → ℕ) (before after : PlaceList T) where
  abbrev items : PlaceList T → List X
  items l = map meant (sequence l)

  has : (n : ℕ) (found : Option ℕ) → Found (λ (y : Placed T). mark (meant y)) n (sequence before) found → has_mark mark n (items before) ≡ is_some found
  has n found f = has_mark-map meant mark n (sequence before) ∙ found-has_mark (λ (y : Placed T). mark (meant y)) n (sequence before) found f

  -- an item is added, unless one has its mark or no more fit
  module _ (x : Placed T) (found : Option ℕ) (same : (λ (y : Placed T). place (meant y)) ≡ place_of) (f : Found (λ (y : Placed T). mark (meant y)) (mark (meant x)) (sequence before) found) where
    placed : sequence after ≡ placed_in place_of x (sequence before) → items after ≡ placed_in place (meant x) (items before)
    placed e = ap (map meant) (e ∙ sym (ap (λ (p : Placed T → ℕ). placed_in p x (sequence before)) same)) ∙ map_placed meant place x (sequence before)

    pub list_added : (r : Result (Unit {0}) Refusal) → Added (is_some found) x before after r →
        ListChanges meant (adding_obstacles (has_mark mark (mark (meant x)) (items before)) (list_of meant before)) (with_item place (meant x) (list_of meant before)) before after r
    list_added (Ok u) w = let e = has (mark (meant x)) found f in (rw e w.0, same_listing (placed w.1) w.2, w.3)
    list_added (Err r) w = let e = has (mark (meant x)) found f in (rw e w.0, w.1, w.2)

    pub valid_added : (valid : List X → Bool) (r : Result (Unit {0}) Refusal) → Added (is_some found) x before after r → valid (items before) ≡ true →
        (has_mark mark (mark (meant x)) (items before) ≡ false → valid (placed_in place (meant x) (items before)) ≡ true) → valid (items after) ≡ true
    valid_added valid (Ok u) w v more = rw (placed w.1) (more (has (mark (meant x)) found f ∙ not_taken (is_some found) (list_of (λ (y : Placed T). y) before) w.0))
    valid_added valid (Err r) w v more = rw w.1.sequence_same v

  -- the item with the mark is taken out, if there is one
  module _ (n : ℕ) where
    pub list_taken : (found : Option ℕ) (r : Result (Unit {0}) Refusal) → Found (λ (y : Placed T). mark (meant y)) n (sequence before) found → Taken found before after r →
        ListChanges meant (taking_obstacles (has_mark mark n (items before))) (without_item mark n (list_of meant before)) before after r
    list_taken (Some i) (Ok u) f w =
        let e = has n (Some i) f in
        (rw e refl, same_listing (ap (map meant) w.0 ∙ removed_without meant mark n (sequence before) i f) w.1, w.2)
    list_taken (Some i) (Err r) f w = absurd w
    list_taken None (Ok u) f w = absurd w
    list_taken None (Err r) f w = let e = has n None f in (rw (e, w.0) refl, w.1, w.2)

    pub valid_taken : (valid : List X → Bool) (found : Option ℕ) (r : Result (Unit {0}) Refusal) → Found (λ (y : Placed T). mark (meant y)) n (sequence before) found → Taken found before after r → valid (items before) ≡ true →
        valid (without_mark mark n (items before)) ≡ true → valid (items after) ≡ true
    valid_taken valid (Some i) (Ok u) f w v fewer = rw (ap (map meant) w.0 ∙ removed_without meant mark n (sequence before) i f) fewer
    valid_taken valid (Some i) (Err r) f w v fewer = absurd w
    valid_taken valid None (Ok u) f w v fewer = absurd w
    valid_taken valid None (Err r) f w v fewer = rw w.1.sequence_same v

-- What changes of a mission's lists, by the lists as they are then.
abbrev pub ChangesTo : List Ground → Track → Lists → PlaceList Grade → PlaceList TargetItem → PlaceList Speed → Result (Unit {0}) Refusal → Type 0
ChangesTo grounds changed before xs ts cs (Ok _) =
    (first grounds ≡ None) × (tracking (list_of section_of xs) (list_of target_of ts) (list_of ceiling_of cs) ≡ changed) × (Kept before.sections xs × Kept before.targets ts × Kept before.ceilings cs)
ChangesTo grounds changed before xs ts cs (Err r) =
    (first grounds ≡ Some r) × (Unaltered before.sections xs × Unaltered before.targets ts × Unaltered before.ceilings cs) × (Kept before.sections xs × Kept before.targets ts × Kept before.ceilings cs)

-- Where one list changes, the others stay.
module _ (before : Lists) (grounds : List Ground) where
  pub sections_change : (changed : Listed Section) (after : PlaceList Grade) (r : Result (Unit {0}) Refusal) → ListChanges section_of grounds changed before.sections after r →
      ChangesTo grounds (record (track_of before) { sections = changed }) before after before.targets before.ceilings r
  sections_change changed after (Ok u) w = (w.0, same_tracking w.1 refl refl, (w.2, kept_list before.targets, kept_list before.ceilings))
  sections_change changed after (Err r) w = (w.0, (w.1, same_list before.targets, same_list before.ceilings), (w.2, kept_list before.targets, kept_list before.ceilings))

  pub targets_change : (changed : Listed Target) (after : PlaceList TargetItem) (r : Result (Unit {0}) Refusal) → ListChanges target_of grounds changed before.targets after r →
      ChangesTo grounds (record (track_of before) { targets = changed }) before before.sections after before.ceilings r
  targets_change changed after (Ok u) w = (w.0, same_tracking refl w.1 refl, (kept_list before.sections, w.2, kept_list before.ceilings))
  targets_change changed after (Err r) w = (w.0, (same_list before.sections, w.1, same_list before.ceilings), (kept_list before.sections, w.2, kept_list before.ceilings))

  pub ceilings_change : (changed : Listed SpeedCeiling) (after : PlaceList Speed) (r : Result (Unit {0}) Refusal) → ListChanges ceiling_of grounds changed before.ceilings after r →
      ChangesTo grounds (record (track_of before) { ceilings = changed }) before before.sections before.targets after r
  ceilings_change changed after (Ok u) w = (w.0, same_tracking refl refl w.1, (kept_list before.sections, kept_list before.targets, w.2))
  ceilings_change changed after (Err r) w = (w.0, (same_list before.sections, same_list before.targets, w.1), (kept_list before.sections, kept_list before.targets, w.2))
