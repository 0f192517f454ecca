-- A state that has what stands by the history, and the type's facts about its lists.
use Rattle.std.proofs.Common.{◌≡◌, ℕ, ◌<◌, true, false, not, eqb, List, [], ◌∷◌, ◌≢◌, refl, inl, inr, arith}
use Rattle.std.proofs.lemmas.Bool.{and_parts, and_from, not-true, not_from_false, ltb-true, lt-ltb, or_parts, or_from, ne_eqb}
use Rattle.place_list.specs.Membership.{In}
use Rattle.sheet.specs.declared.values.Values.{Values}
use Rattle.calls.specs.declared.phase.Phase.TheVariants.{Free}
use Rattle.history.specs.Agrees.{ListedExactly}
use Rattle.history.specs.History.{History, Section, SpeedCeiling, Target, CeilingStands, SectionStands, TargetStands}
use Rattle.history.specs.Lines.{last_phase}
use Rattle.history.specs.State.{State, Valid, each_further_on, first_further_on, fit_grades, has_mark, has_number, is_unfit, valid_sections, valid_targets}

abbrev pub section_place : Section → ℕ
section_place x = x.place

abbrev pub ceiling_place : SpeedCeiling → ℕ
ceiling_place c = c.place

abbrev pub target_place_of : Target → ℕ
target_place_of t = t.place

abbrev pub target_number : Target → ℕ
target_number t = t.number

-- Each item begins further on than the one before it, the first after p.
abbrev pub Above : {X : Type 0} → (X → ℕ) → ℕ → List X → Type 0
Above place p [] = Unit {0}
Above place p (x ∷ xs) = (p < place x) × Above place (place x) xs

abbrev pub Ascends : {X : Type 0} → (X → ℕ) → List X → Type 0
Ascends place [] = Unit {0}
Ascends place (x ∷ xs) = Above place (place x) xs

-- No two items have the same mark.
abbrev pub Distinct : {X : Type 0} → (X → ℕ) → List X → Type 0
Distinct mark [] = Unit {0}
Distinct {X} mark (x ∷ xs) = ((y : X) → In y xs → mark y ≢ mark x) × Distinct mark xs

-- The state has the last phase, exactly the items that stand, and what the type of its lists holds.
pub record Tracks (sheet : Values) (h : History) (s : State) : Type 0 where
  pub phase : last_phase Free h ≡ s.phase
  pub sections : ListedExactly (SectionStands h) s.track.sections.items
  pub targets : ListedExactly (TargetStands sheet h) s.track.targets.items
  pub ceilings : ListedExactly (CeilingStands h) s.track.ceilings.items
  pub valid : Valid s.track

-- The tests of the lists' type, read as facts, and back.

module _ {X : Type 0} (place : X → ℕ) where
  above : (p : ℕ) (xs : List X) → first_further_on place p xs ≡ true → each_further_on place xs ≡ true → Above place p xs
  above p [] f v = tt
  above p (x ∷ xs) f v =
      let w = and_parts (first_further_on place (place x) xs) (each_further_on place xs) v in
      (ltb-true p (place x) f, above (place x) xs w.0 w.1)

  pub further_ascends : (xs : List X) → each_further_on place xs ≡ true → Ascends place xs
  further_ascends [] v = tt
  further_ascends (x ∷ xs) v =
      let w = and_parts (first_further_on place (place x) xs) (each_further_on place xs) v in
      above (place x) xs w.0 w.1

  above_first : (p : ℕ) (xs : List X) → Above place p xs → first_further_on place p xs ≡ true
  above_first p [] a = refl
  above_first p (x ∷ xs) a = lt-ltb p (place x) a.0

  pub above_ascends : (p : ℕ) (xs : List X) → Above place p xs → Ascends place xs
  above_ascends p [] a = tt
  above_ascends p (x ∷ xs) a = a.1

  pub ascends_further : (xs : List X) → Ascends place xs → each_further_on place xs ≡ true
  ascends_further [] a = refl
  ascends_further (x ∷ xs) a = and_from _ _ (above_first (place x) xs a) (ascends_further xs (above_ascends (place x) xs a))

fit_from : (xs : List Section) → fit_grades xs ≡ true → (x : Section) → In x xs → is_unfit x.grade ≡ false
fit_from [] v x i = absurd i
fit_from (y ∷ ys) v x i =
    let w = and_parts (not (is_unfit y.grade)) (fit_grades ys) v in
    let here : is_unfit y.grade ≡ false = not-true _ w.0 in
    elim i [ inl e ↦ rw e here | inr j ↦ fit_from ys w.1 x j ]

fit_all : (xs : List Section) → ((x : Section) → In x xs → is_unfit x.grade ≡ false) → fit_grades xs ≡ true
fit_all [] fit = refl
fit_all (x ∷ xs) fit = and_from _ _ (not_from_false _ (fit x (inl refl))) (fit_all xs (λ y i. fit y (inr i)))

pub valid_ascends : (xs : List Section) → valid_sections xs ≡ true → Ascends section_place xs
valid_ascends xs v = further_ascends section_place xs (and_parts (fit_grades xs) (each_further_on section_place xs) v).1

pub valid_fit : (xs : List Section) → valid_sections xs ≡ true → (x : Section) → In x xs → is_unfit x.grade ≡ false
valid_fit xs v = fit_from xs (and_parts (fit_grades xs) (each_further_on section_place xs) v).0

pub ascends_valid : (xs : List Section) → Ascends section_place xs → ((x : Section) → In x xs → is_unfit x.grade ≡ false) → valid_sections xs ≡ true
ascends_valid xs a fit = and_from _ _ (fit_all xs fit) (ascends_further section_place xs a)

module _ {X : Type 0} (mark : X → ℕ) where
  pub no_mark : (n : ℕ) (xs : List X) → has_mark mark n xs ≡ false → (y : X) → In y xs → mark y ≡ n → ⊥
  no_mark n [] f y i e = absurd i
  no_mark n (x ∷ xs) f y i e =
      let o = or_parts (eqb (mark x) n) (has_mark mark n xs) f in
      elim i [ inl k ↦ grind arith | inr j ↦ no_mark n xs o.1 y j e ]

  pub has_mark-false : (n : ℕ) (xs : List X) → ((y : X) → In y xs → mark y ≢ n) → has_mark mark n xs ≡ false
  has_mark-false n [] f = refl
  has_mark-false n (x ∷ xs) f = or_from _ _ (ne_eqb (mark x) n (f x (inl refl))) (has_mark-false n xs (λ y i. f y (inr i)))

pub valid_distinct : (ts : List Target) → valid_targets ts ≡ true → Distinct target_number ts
valid_distinct [] v = tt
valid_distinct (t ∷ ts) v =
    let w = and_parts (not (has_number t.number ts)) (valid_targets ts) v in
    (no_mark target_number t.number ts (not-true _ w.0), valid_distinct ts w.1)

pub distinct_valid : (ts : List Target) → Distinct target_number ts → valid_targets ts ≡ true
distinct_valid [] d = refl
distinct_valid (t ∷ ts) d = and_from _ _ (not_from_false _ (has_mark-false target_number t.number ts d.0)) (distinct_valid ts d.1)
