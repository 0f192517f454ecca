-- What a zone says of the exact distances, by a lawful meaning, and of the phase after it.
use Rattle.std.proofs.lemmas.Bool.Decides.{nat_tests}
use Rattle.std.proofs.Common.{◌≡◌, ℕ, ◌+◌, ◌-◌, ◌*◌, ◌<◌, ◌≤◌, ◌⊎◌, true, false, cond, leb, List, [], ◌∷◌, Some, None, Option, sym, refl, ap, ◌∙◌, inl, inr, mul-le-mul_right, arith}
use Rattle.std.proofs.lemmas.Bool.{cases_lt, cases_Bool}
use Rattle.place_list.specs.Membership.{In}
use Rattle.braking.specs.Laws.{Sound}
use Rattle.braking.specs.Meaning.{Meaning, Verdict, Binds, binds, weak, strong}
use Rattle.calls.specs.Zones.{max_zone}
use Rattle.calls.specs.declared.phase.Phase.{Phase}
use Rattle.calls.specs.declared.phase.Phase.TheVariants.{Emergency}
use Rattle.calls.specs.declared.zone.Zone.{Zone}
use Rattle.calls.specs.declared.zone.Zone.TheVariants as zones
use Rattle.history.specs.History.{Section, SpeedCeiling, Target}
use Rattle.history.specs.Lines.{FarAbove, MustBrake, MayBrake, MayRelease}
use Rattle.history.specs.Zones.{excess_zone, zone_of, zone_under, question, target_zone, largest_zone, is_clear}
use Rattle.history.specs.Step.{next_phase}

-- o / u reaches the place, and c covers o / u.
reach : (place front c u o : ℕ) → 0 < u → place * u ≤ front * u + o → o ≤ c * u → place ≤ front + c
reach place front c u o up r k =
    elim (cases_lt (front + c) place) [
      | inl lt ↦
          let far : (front + c + 1) * u ≤ place * u = mul-le-mul_right u (omega arith) in
          grind arith
      | inr le ↦ le
    ]

-- Up to front and c, and after it.
up_to : (place front c u : ℕ) → place ≤ front + c → place * u ≤ front * u + c * u
up_to place front c u l = let m : place * u ≤ (front + c) * u = mul-le-mul_right u l in grind arith

beyond : (place front c u : ℕ) → 0 < u → front + c < place → front * u + c * u < place * u
beyond place front c u up l = let m : (front + c + 1) * u ≤ place * u = mul-le-mul_right u (omega arith) in grind arith

-- Where the brake must be on, the zone is control.
pub must_control : (v : Verdict) (front place : ℕ) → Sound v → MustBrake v front place → zone_of v front place ≡ zones.Control
must_control weak front place s h = refl
must_control (strong e c) front place s h =
    let l : place ≤ front + c.control = reach place front c.control e.control.denominator e.control.numerator e.control.positive (omega arith) (grind arith) in
    grind (arith, nat_tests)

-- In zone control the brake may come on.
pub control_may : (v : Verdict) (front place : ℕ) → Sound v → zone_of v front place ≡ zones.Control → MayBrake v front place
control_may weak front place s h = tt
control_may (strong e c) front place s h =
    elim (cases_lt (front + c.control) place) [
      | inl lt ↦
          let t : leb place (front + c.control) ≡ false = grind arith in
          let h' : cond (leb place (front + c.warning)) zones.Warning (cond (leb place (front + c.nominal)) zones.Nominal zones.Clear) ≡ zones.Control = rw t at h in
          let other : cond (leb place (front + c.warning)) zones.Warning (cond (leb place (front + c.nominal)) zones.Nominal zones.Clear) ≡ zones.Control → ⊥ =
          grind arith in
          absurd (other h')
      | inr le ↦
          let m : place * e.control.denominator ≤ front * e.control.denominator + c.control * e.control.denominator = up_to place front c.control e.control.denominator le in
          omega (arith, s.0.at_most)
    ]

-- In zone clear the brake may be let go.
pub clear_may_release : (v : Verdict) (front place : ℕ) → Sound v → zone_of v front place ≡ zones.Clear → MayRelease v front place
clear_may_release weak front place s h = grind arith
clear_may_release (strong e c) front place s h =
    elim (cases_lt (front + c.nominal) place) [
      | inl lt ↦
          let m : front * e.nominal.denominator + c.nominal * e.nominal.denominator < place * e.nominal.denominator = beyond place front c.nominal e.nominal.denominator e.nominal.positive lt in
          grind arith
      | inr le ↦
          let some : zone_of (strong e c) front place ≡ zones.Clear → ⊥ =
          grind arith in
          absurd (some h)
    ]

-- Of two zones the larger.
pub first_control : (z w : Zone) → z ≡ zones.Control → max_zone z w ≡ zones.Control
first_control z w e = grind arith

pub second_control : (z w : Zone) → w ≡ zones.Control → max_zone z w ≡ zones.Control
second_control z w e = grind arith

pub either_control : (z w : Zone) → max_zone z w ≡ zones.Control → (z ≡ zones.Control) ⊎ (w ≡ zones.Control)
either_control z w e = grind arith

pub both_clear : (z w : Zone) → max_zone z w ≡ zones.Clear → (z ≡ zones.Clear) × (w ≡ zones.Clear)
both_clear z w e = grind arith

-- The zone under a ceiling says how far above it the train is.
pub far_control : (o : Option ℕ) (c : SpeedCeiling) (speed : ℕ) → o ≡ Some c.speed → FarAbove speed c → zone_under o speed ≡ zones.Control
far_control o c speed e l = rw e (let far : 100 < speed - c.speed = omega arith in grind (arith, nat_tests))

above_far : (excess : ℕ) → excess_zone excess ≡ zones.Control → 100 < excess
above_far excess e = grind (arith, nat_tests)

pub control_far : (o : Option ℕ) (speed : ℕ) → zone_under o speed ≡ zones.Control → (v : ℕ) × (o ≡ Some v) × ((c : SpeedCeiling) → c.speed ≡ v → FarAbove speed c)
control_far None speed e = grind arith
control_far (Some v) speed e = (v, refl, λ c same. omega (arith, above_far (speed - v) e, same))

above_none : (excess : ℕ) → excess_zone excess ≡ zones.Clear → excess ≡ 0
above_none excess e = grind (arith, nat_tests)

pub clear_under : (o : Option ℕ) (c speed : ℕ) → o ≡ Some c → zone_under o speed ≡ zones.Clear → speed ≤ c
clear_under o c speed e k = let none : speed - c ≡ 0 = above_none (speed - c) (rw e at k) in omega arith

module _ (m : Meaning) (xs : List Section) (rear front v : ℕ) where
  -- a binding target has the zone of its verdict
  pub binding_zone : (t : Target) → Binds m (question xs rear front v t) → target_zone m xs rear front v t ≡ zone_of (m.verdict (question xs rear front v t)) front t.place
  binding_zone t b = grind arith

  -- one in control makes the largest so
  pub one_control : (ts : List Target) (t : Target) → In t ts → target_zone m xs rear front v t ≡ zones.Control → largest_zone m xs rear front v ts ≡ zones.Control
  one_control [] t i e = absurd i
  one_control (u ∷ us) t (inl same) e = first_control _ _ (ap (λ (t : Target). target_zone m xs rear front v t) (sym same) ∙ e)
  one_control (u ∷ us) t (inr i) e = second_control _ _ (one_control us t i e)

  -- where the largest is clear, all are
  pub all_clear : (ts : List Target) (t : Target) → In t ts → largest_zone m xs rear front v ts ≡ zones.Clear → target_zone m xs rear front v t ≡ zones.Clear
  all_clear [] t i e = absurd i
  all_clear (u ∷ us) t (inl same) e = ap (λ (t : Target). target_zone m xs rear front v t) same ∙ (both_clear _ _ e).0
  all_clear (u ∷ us) t (inr i) e = all_clear us t i (both_clear _ _ e).1

  -- where the largest is control, some binding target's is
  pub some_control : (ts : List Target) → largest_zone m xs rear front v ts ≡ zones.Control → (t : Target) × In t ts × Binds m (question xs rear front v t) × (target_zone m xs rear front v t ≡ zones.Control)
  some_control [] e = grind arith
  some_control (u ∷ us) e = elim (either_control _ _ e) [
    | inl here ↦ elim (cases_Bool (binds m (question xs rear front v u))) [ inl binding ↦ (u, inl refl, binding, here) | inr free ↦ grind arith ]
    | inr there ↦ let w = some_control us there in (w.0, inr w.1, w.2, w.3)
  ]

-- The phase after a sample.
pub next_control : (p : Phase) (z : Zone) → z ≡ zones.Control → next_phase p z ≡ Emergency
next_control p z e = grind arith

pub next_came : (p : Phase) (z : Zone) → (p ≡ Emergency → ⊥) → next_phase p z ≡ Emergency → z ≡ zones.Control
next_came p z n e = grind arith

pub clear_is : (z : Zone) → is_clear z ≡ true → z ≡ zones.Clear
clear_is z e = grind arith
