-- The least grade of a stretch, by one pass over the sections up to its end.
use Rattle.std.proofs.lemmas.Bool.Decides.{nat_tests}
use Rattle.std.proofs.Common.{◌≡◌, ℕ, ◌≤◌, leb, ◌⊎◌, Bool, true, false, cond, ℤ, ◌≤ℤ◌, List, [], Option, ◌++◌, ◌∷◌, refl, ap, sym, ◌∙◌, inl, inr, rules, arith}
use denote.Param.Members.{Mut}
use lib.Signed.{≤ℤ_refl}
use Rattle.std.proofs.lemmas.Bool.{cases_lt, le-leb, lt-leb, cond_both}
use Rattle.std.proofs.lemmas.Fn.{fold_over}
use Rattle.std.proofs.lemmas.Int.{ints}
use Rattle.std.proofs.lemmas.Iterator.{YieldsList}
use Rattle.std.specs.Prelude.{nat_le}
use Rattle.std.specs.Fn.{Called}
use Rattle.std.specs.Iterator.{Drains}
use Rattle.std.specs.Int.{int_min}
use Rattle.std.specs.List.{FoldsTo}
use Rattle.units.specs.declared.quantities.Grade.{Grade}
use Rattle.place_list.specs.declared.placed.Placed.{Placed}
use Rattle.history.specs.History.{Section, steepest}
use Rattle.history.specs.Zones.{held_at, least_grade}
use Rattle.history.proofs.Grades.{least_below, least_reached, min_either, min_right, section_grade}
use Rattle.history.proofs.Tracked.{Above, Ascends, above_ascends, section_place}
use Rattle.supervision.specs.Items.{section_of, sections_in}
use Rattle.supervision.proofs.Inside.{folded, folded_one}

-- The grade so far with one more section: up to the start it takes the grade's place, further on it can only lower it.
abbrev joined : (from : ℕ) → ℤ → Section → ℤ
joined from g x = cond (nat_le x.place from) x.grade (int_min g x.grade)

-- The pass over the sections up to the end, with g as the grade so far.
abbrev one_pass : ℤ → (from to : ℕ) → List Section → ℤ
one_pass g from to [] = g
one_pass g from to (x ∷ xs) = cond (nat_le x.place to) (one_pass (joined from g x) from to xs) g

-- The grade at p, where d holds before the first section.
abbrev grade_in : ℤ → List Section → ℕ → ℤ
grade_in d xs p = held_at section_place section_grade d xs p

-- Up to where the sections begin, d holds.
early : (d : ℤ) (q : ℕ) (xs : List Section) (p : ℕ) → Above section_place q xs → p ≤ q → grade_in d xs p ≡ d
early d q [] p a l = refl
early d q (x ∷ xs) p a l = grind arith

module _ (from to : ℕ) where
  -- Beyond the start the grade so far only falls, and stays at or below the grade at each place that is still to come.
  falls : (a d : ℤ) (q : ℕ) (xs : List Section) → from ≤ q → Above section_place q xs → a ≤ℤ d →
      (one_pass a from to xs ≤ℤ a) × ((p : ℕ) → p ≤ to → one_pass a from to xs ≤ℤ grade_in d xs p)
  falls a d q [] f k l = grind arith
  falls a d q (x ∷ xs) f k l =
      let n : leb x.place from ≡ false = grind arith in
      let r = falls (int_min a x.grade) x.grade x.place xs (omega (arith, k.0)) k.1 (min_right a x.grade) in
      let low : one_pass (int_min a x.grade) from to xs ≤ℤ a = grind arith in (
        rw n (cond_both _ (one_pass (int_min a x.grade) from to xs) a (λ (v : ℤ). v ≤ℤ a) (λ e. low) (λ e. ≤ℤ_refl a)),
        λ p m. rw n (cond_both _ (one_pass (int_min a x.grade) from to xs) a (λ (v : ℤ). v ≤ℤ grade_in d (x ∷ xs) p)
            (λ e. cond_both (leb x.place p) (grade_in x.grade xs p) d (λ (v : ℤ). one_pass (int_min a x.grade) from to xs ≤ℤ v)
            (λ e. r.1 p m) (λ e. grind arith))
            (λ e. let h : leb x.place p ≡ false = grind (arith, nat_tests) in rw h l)),
      )

  -- The pass gives at most the grade at each place of the stretch.
  pass_below : (d : ℤ) (xs : List Section) → Ascends section_place xs → (p : ℕ) → from ≤ p → p ≤ to → one_pass d from to xs ≤ℤ grade_in d xs p
  pass_below d [] a p l m = ≤ℤ_refl d
  pass_below d (x ∷ xs) a p l m =
      elim (cases_lt from x.place) [
        | inl after ↦ (falls d d from (x ∷ xs) (omega arith) (after, a) (≤ℤ_refl d)).1 p m
        | inr before ↦
            let f : leb x.place from ≡ true = grind arith in
            let t : leb x.place to ≡ true = grind arith in
            let h : leb x.place p ≡ true = grind arith in
            rw (t, f, h) (pass_below x.grade xs (above_ascends section_place x.place xs a) p l m)
      ]

  -- Beyond the start it is the grade so far, or the grade at a place that is still to come.
  comes_from : (a d : ℤ) (q : ℕ) (xs : List Section) → from ≤ q → Above section_place q xs →
      (one_pass a from to xs ≡ a) ⊎ ((p : ℕ) × (q ≤ p) × (p ≤ to) × (grade_in d xs p ≡ one_pass a from to xs))
  comes_from a d q [] f k = inl refl
  comes_from a d q (x ∷ xs) f k =
      let n : leb x.place from ≡ false = lt-leb x.place from (omega (arith, k.0)) in
      elim (cases_lt to x.place) [
        | inl beyond ↦ let g : leb x.place to ≡ false = lt-leb x.place to beyond in inl (rw g)
        | inr within ↦
            let g : leb x.place to ≡ true = le-leb x.place to within in
            let h : leb x.place x.place ≡ true = le-leb x.place x.place (omega arith) in
            elim (comes_from (int_min a x.grade) x.grade x.place xs (omega (arith, k.0)) k.1) [
              | inl e ↦ elim (min_either a x.grade) [
                | inl m ↦ inl (rw (n, g) (e ∙ m))
                | inr m ↦ inr (x.place, omega (arith, k.0), within, rw (n, g, h) (early x.grade x.place xs x.place k.1 (omega arith) ∙ sym (e ∙ m)))
              ]
              | inr w ↦
                  let o : leb x.place w.0 ≡ true = le-leb x.place w.0 w.1 in
                  inr (w.0, omega (arith, k.0, w.1), w.2, rw (n, g, o) w.3)
            ]
      ]

  -- The pass gives the grade at some place of the stretch.
  pass_reached : (d : ℤ) (xs : List Section) → Ascends section_place xs → from ≤ to → (p : ℕ) × (from ≤ p) × (p ≤ to) × (grade_in d xs p ≡ one_pass d from to xs)
  pass_reached d [] a o = search rules
  pass_reached d (x ∷ xs) a o =
      elim (cases_lt from x.place) [
        | inl after ↦ elim (comes_from d d from (x ∷ xs) (omega arith) (after, a)) [
          | inl e ↦ grind arith
          | inr w ↦ (w.0, w.1, w.2, w.3)
        ]
        | inr before ↦
            let f : leb x.place from ≡ true = le-leb x.place from before in
            let t : leb x.place to ≡ true = grind arith in
            let r = pass_reached x.grade xs (above_ascends section_place x.place xs a) o in
            let h : leb x.place r.0 ≡ true = grind arith in
            (r.0, r.1, r.2, rw (t, f, h) r.3)
      ]

  -- So it gives the least one.
  pub pass_is_least : (xs : List Section) → Ascends section_place xs → from ≤ to → one_pass steepest from to xs ≡ least_grade xs from to
  pass_is_least xs a forward =
      let r = pass_reached steepest xs a forward in
      let r' = least_reached xs from to forward in
      let low = least_below xs from to forward r.0 r.1 r.2 in
      let low' = pass_below steepest xs a r'.0 r'.1 r'.2 in
      omega (arith, ints, r.3, r'.3, low, low')

-- The section begins no further on than the stretch ends.
abbrev pub inside : (to : ℕ) → Placed Grade → Bool
inside to x = nat_le x.place.millimetres to

-- The grade so far with one more section, as a list holds it.
abbrev pub with_one : (from : ℕ) → ℤ → Placed Grade → ℤ
with_one from g x = joined from g (section_of x)

-- The pass is a fold over the sections inside.
pub pass_inside : (from to : ℕ) (xs : List (Placed Grade)) (g : ℤ) → folded (inside to) (with_one from) (λ k. k) g xs ≡ one_pass g from to (sections_in xs)
pass_inside from to [] g = refl
pass_inside from to (x ∷ xs) g = folded_one (inside to) (with_one from) (λ k. k) g x xs ∙ ap (λ (k : ℤ). cond (inside to x) k g) (pass_inside from to xs (with_one from g x))

-- `fold_over` with what ran before the chain's own proof.
pub over : {S A B F C : Type 0} {steps : S → Option A → S → Type 0} {g : Mut F (C × (A × Unit {0})) C} {f : F} {s : S} {all : List B} {a r : C} (v : A → B) (J : List B → C → Type 0) →
    (xs : List A) × (f' : F) × Drains steps s xs × FoldsTo {P = F × C} (λ p x q. Called g p.0 (p.1, (x, tt)) q.1 q.0) (f, a) xs (f', r) → YieldsList steps v s all →
    ((ys : List B) (b : C) (x : A) (d : C) (f' : F) → J ys b → Called g f (b, (x, tt)) d f' → J (ys ++ (v x ∷ [])) d × (f' ≡ f)) → J [] a → J all r
over {steps = steps} {g = g} {f = f} {s = s} {all = all} {a = a} {r = r} v J ran y step z = fold_over steps v g J f step s all a r y.runs z ran
