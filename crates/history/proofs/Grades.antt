-- The least grade of a stretch, by a list of sections, is the least over its places.
use Rattle.std.proofs.Common.{◌≡◌, ℕ, ◌+◌, ◌-◌, ◌≤◌, leb, ◌⊎◌, List, [], ◌∷◌, ℤ, ◌≤ℤ◌, sym, refl, ◌∙◌, subst, zero, suc, false, inl, inr, arith}
use Rattle.std.proofs.lemmas.Int.{ints}
use Rattle.std.specs.Int.{int_min}
use Rattle.std.proofs.lemmas.Bool.{cases_lt, cond_both}
use Rattle.place_list.specs.Membership.{In}
use Rattle.history.specs.History.{Section, steepest}
use Rattle.history.specs.State.{is_unfit}
use Rattle.history.specs.Zones.{grade_at, held_at, least_from, least_grade}
use Rattle.history.proofs.Begun.{ValueIn, held_is, held_one}
use Rattle.history.proofs.Tracked.{Ascends, section_place}

abbrev pub section_grade : Section → ℤ
section_grade x = x.grade

abbrev pub GradeIn : List Section → ℕ → ℤ → Type 0
GradeIn xs p g = ValueIn section_place section_grade steepest xs p g

pub grade_at_is : (xs : List Section) (p : ℕ) → Ascends section_place xs → GradeIn xs p (grade_at xs p)
grade_at_is xs p a = held_is section_place section_grade steepest xs p a

pub grade_at_one : (xs : List Section) (p : ℕ) (g k : ℤ) → Ascends section_place xs → GradeIn xs p g → GradeIn xs p k → g ≡ k
grade_at_one xs p g k a v w = held_one section_place section_grade steepest xs p g k a v w

min_left : (a b : ℤ) → int_min a b ≤ℤ a
min_left a b = grind arith

pub min_right : (a b : ℤ) → int_min a b ≤ℤ b
min_right a b = grind arith

pub min_either : (a b : ℤ) → (int_min a b ≡ a) ⊎ (int_min a b ≡ b)
min_either a b = grind arith

module _ (xs : List Section) (from : ℕ) where
  -- It is at most the grade at each of the places, ...
  from_below : (more p : ℕ) → from ≤ p → p ≤ from + more → least_from xs from more ≤ℤ grade_at xs p
  from_below zero p l m = let here : from ≡ p = omega arith in rw here (grind arith)
  from_below (suc n) p l m =
      elim (cases_lt (from + n) p) [
        | inl last ↦ let there : p ≡ from + suc n = omega arith in rw there (min_right (least_from xs from n) (grade_at xs (from + suc n)))
        | inr before ↦
            let low : least_from xs from n ≤ℤ grade_at xs p = from_below n p l before in
            let lower : least_from xs from (suc n) ≤ℤ least_from xs from n = min_left (least_from xs from n) (grade_at xs (from + suc n)) in
            omega (arith, ints)
      ]

  -- ... and it is the grade at one of them.
  from_reached : (more : ℕ) → (p : ℕ) × (from ≤ p) × (p ≤ from + more) × (grade_at xs p ≡ least_from xs from more)
  from_reached zero = (from, omega arith, omega arith, refl)
  from_reached (suc n) =
      elim (min_either (least_from xs from n) (grade_at xs (from + suc n))) [
        | inl old ↦ let r = from_reached n in (r.0, r.1, omega (arith, r.2), r.3 ∙ sym old)
        | inr new ↦ (from + suc n, omega arith, omega arith, sym new)
      ]

  module _ (to : ℕ) (forward : from ≤ to) where
    pub least_below : (p : ℕ) → from ≤ p → p ≤ to → least_grade xs from to ≤ℤ grade_at xs p
    least_below p l m = from_below _ p l (omega arith)

    pub least_reached : (p : ℕ) × (from ≤ p) × (p ≤ to) × (grade_at xs p ≡ least_grade xs from to)
    least_reached = let r = from_reached (to - from) in (r.0, r.1, omega (arith, r.2), r.3)

-- Where no section's grade is unfit, nor the one before them, the one at a place is not.
held_fit : (d : ℤ) (xs : List Section) (p : ℕ) → is_unfit d ≡ false → ((x : Section) → In x xs → is_unfit x.grade ≡ false) → is_unfit (held_at section_place section_grade d xs p) ≡ false
held_fit d [] p u all = u
held_fit d (x ∷ xs) p u all =
    cond_both (leb x.place p) (held_at section_place section_grade x.grade xs p) d (λ (g : ℤ). is_unfit g ≡ false)
    (λ e. held_fit x.grade xs p (all x (inl refl)) (λ y i. all y (inr i)))
    (λ e. u)

-- Nor is the least one of a stretch.
pub least_fit : (xs : List Section) (from to : ℕ) → ((x : Section) → In x xs → is_unfit x.grade ≡ false) → is_unfit (least_grade xs from to) ≡ false
least_fit xs from to all =
    let r = from_reached xs from (to - from) in
    subst (λ (g : ℤ). is_unfit g ≡ false) r.3 (held_fit steepest xs r.0 refl all)
