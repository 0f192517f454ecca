-- What the type of a mission's lists holds is kept by every step.
use Rattle.std.proofs.Common.{◌≡◌, ℕ, true, false, List, Some, None, refl, subst, inl, inr, sym}
use Rattle.place_list.specs.Insertion.{placed_in}
use Rattle.place_list.proofs.Members.{one_more_placed}
use Rattle.sheet.specs.declared.values.Values.{Values}
use Rattle.braking.specs.Meaning.{Meaning}
use Rattle.calls.specs.declared.call.Call.{Call}
use Rattle.calls.specs.declared.call.Call.TheVariants.{Slope, Announce, Withdraw, Ceiling, Lift, Sample, Release}
use Rattle.history.specs.History.{Section, SpeedCeiling, Target}
use Rattle.history.specs.State.{State, Valid, begins_at, ceiling_begins_at, has_number, is_unfit, valid_ceilings, valid_sections, valid_targets}
use Rattle.history.specs.Step.{decide, does, first, grounds, step, without_mark}
use Rattle.history.specs.Theorem.{EveryStepKeepsValid}
use Rattle.history.proofs.Lists.{placed_ascends, placed_distinct, without_ascends, without_distinct}
use Rattle.history.proofs.Tracked.{ascends_further, ascends_valid, ceiling_place, distinct_valid, further_ascends, no_mark, section_place, target_number, target_place_of, valid_ascends, valid_distinct, valid_fit}
use Rattle.history.proofs.Grounds.{groundless}

pub section_more : (x : Section) (xs : List Section) → valid_sections xs ≡ true → is_unfit x.grade ≡ false → begins_at x.place xs ≡ false → valid_sections (placed_in section_place x xs) ≡ true
section_more x xs v fit free =
    ascends_valid (placed_in section_place x xs) (placed_ascends section_place x xs (valid_ascends xs v) free)
    (λ y i. elim ((one_more_placed section_place x xs).only y i) [
      | inl j ↦ valid_fit xs v y j
      | inr same ↦ subst (λ (z : Section). is_unfit z.grade ≡ false) (sym same) fit
    ])

pub target_more : (t : Target) (ts : List Target) → valid_targets ts ≡ true → has_number t.number ts ≡ false → valid_targets (placed_in target_place_of t ts) ≡ true
target_more t ts v free = distinct_valid (placed_in target_place_of t ts) (placed_distinct target_number target_place_of t ts (valid_distinct ts v) (no_mark target_number t.number ts free))

pub target_fewer : (n : ℕ) (ts : List Target) → valid_targets ts ≡ true → valid_targets (without_mark target_number n ts) ≡ true
target_fewer n ts v = distinct_valid (without_mark target_number n ts) (without_distinct target_number n ts (valid_distinct ts v))

pub ceiling_more : (c : SpeedCeiling) (cs : List SpeedCeiling) → valid_ceilings cs ≡ true → ceiling_begins_at c.place cs ≡ false → valid_ceilings (placed_in ceiling_place c cs) ≡ true
ceiling_more c cs v free = ascends_further ceiling_place (placed_in ceiling_place c cs) (placed_ascends ceiling_place c cs (further_ascends ceiling_place cs v) free)

pub ceiling_fewer : (p : ℕ) (cs : List SpeedCeiling) → valid_ceilings cs ≡ true → valid_ceilings (without_mark ceiling_place p cs) ≡ true
ceiling_fewer p cs v = ascends_further ceiling_place (without_mark ceiling_place p cs) (without_ascends ceiling_place p cs (further_ascends ceiling_place cs v))

module _ (sheet : Values) (m : Meaning) (s : State) (v : Valid s.track) where
  pub done_valid : (c : Call) → first (grounds m s c) ≡ None → Valid (does sheet m s c).state.track
  done_valid (Slope p g) none =
      let w = groundless (grounds m s (Slope p g)) none in
      record { sections = section_more _ s.track.sections.items v.sections w.1.0 w.1.1.0; targets = v.targets; ceilings = v.ceilings }
  done_valid (Announce n p d w) none = record { sections = v.sections; targets = target_more _ s.track.targets.items v.targets (groundless (grounds m s (Announce n p d w)) none).1.1.0; ceilings = v.ceilings }
  done_valid (Withdraw n) none = record { sections = v.sections; targets = target_fewer n s.track.targets.items v.targets; ceilings = v.ceilings }
  done_valid (Ceiling p w) none = record { sections = v.sections; targets = v.targets; ceilings = ceiling_more _ s.track.ceilings.items v.ceilings (groundless (grounds m s (Ceiling p w)) none).1.1.0 }
  done_valid (Lift p) none = record { sections = v.sections; targets = v.targets; ceilings = ceiling_fewer p.millimetres s.track.ceilings.items v.ceilings }
  done_valid (Sample p w) none = v
  done_valid Release none = v

  stepped : (c : Call) → Valid (step sheet m s c).state.track
  stepped c = elim (first (grounds m s c)) as (λ o. first (grounds m s c) ≡ o → Valid (decide o s (does sheet m s c)).state.track)
      [ None ↦ λ e. done_valid c e | Some r ↦ λ e. v ] refl

pub step_valid : EveryStepKeepsValid
step_valid sheet m s v c = stepped sheet m s v c
