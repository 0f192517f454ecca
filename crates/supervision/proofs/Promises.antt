-- What a call of the mission promises, from what its grounds are and what it left.
use Rattle.std.proofs.Common.{◌≡◌, ℕ, Bool, true, false, cond, not, List, [], ◌∷◌, ◌++◌, map, Some, None, Ok, Err, Option, sym, refl, ap, ◌∙◌, subst, arith}
use Rattle.std.specs.Prelude.{nat_lt}
use Rattle.units.specs.declared.quantities.Distance.{Distance}
use Rattle.units.specs.declared.quantities.Grade.{Grade}
use Rattle.sheet.specs.declared.admitted.Admitted.{Admitted}
use Rattle.sheet.specs.declared.values.Values.{Values}
use Rattle.braking.specs.Laws.{Lawful}
use Rattle.braking.specs.Meaning.{Meaning}
use Rattle.calls.specs.Answers.{Answer}
use Rattle.calls.specs.declared.call.Call.{Call}
use Rattle.calls.specs.declared.call.Call.TheVariants.{Slope, Announce, Withdraw, Ceiling, Lift, Sample, Release}
use Rattle.calls.specs.declared.phase.Phase.{Phase}
use Rattle.calls.specs.declared.phase.Phase.TheVariants.{Free}
use Rattle.calls.specs.declared.record.Record.{Record}
use Rattle.calls.specs.declared.refusal.Refusal.{Refusal}
use Rattle.calls.specs.declared.refusal.Refusal.TheVariants.{GradeOutOfLimits, NotReleasable, PlaceOutOfLimits}
use Rattle.history.specs.Agrees.{Agrees}
use Rattle.history.specs.Runs.{entry_of}
use Rattle.history.specs.State.{Capacity, empty_track, State, Track, Valid, is_unfit}
use Rattle.history.specs.Step.{Ground, Stepped, decide, does, first, ground_for, grounds, limits, max_place, is_releasable, obstacles, step}
use Rattle.history.proofs.Runs.{start_agrees, step_agrees}
use Rattle.supervision.proofs.Items.{kept_list, same_list, same_listing, same_tracking}
use Rattle.supervision.specs.Items.{ceiling_of, section_of, target_of}
use Rattle.supervision.specs.Lists.{ListsKept, ListsUnaltered, track_of}
use Rattle.supervision.specs.Missions.{Law, Made, SameTrain, entry, sheet_of, state_of}
use Rattle.supervision.specs.declared.lists.Lists.{Lists}
use Rattle.supervision.specs.declared.mission.Mission.{Mission}

-- The first ground of two lists of grounds, one behind the other.
pub first_here : (r : Refusal) (xs ys : List Ground) → first xs ≡ Some r → first (xs ++ ys) ≡ Some r
first_here r [] ys e = let z : ◌≡◌ {A = ℕ} 0 1 = cc in absurd (omega arith)
first_here r (x ∷ xs) ys e = elim x.holds as (λ b. cond b (Some x.refusal) (first xs) ≡ Some r → cond b (Some x.refusal) (first (xs ++ ys)) ≡ Some r)
    [ true ↦ λ k. k | false ↦ λ k. first_here r xs ys k ] e

pub first_behind : (o : Option Refusal) (xs ys : List Ground) → first xs ≡ None → first ys ≡ o → first (xs ++ ys) ≡ o
first_behind o [] ys e f = f
first_behind o (x ∷ xs) ys e f = elim x.holds as (λ b. cond b (Some x.refusal) (first xs) ≡ None → cond b (Some x.refusal) (first (xs ++ ys)) ≡ o)
    [ true ↦ λ k. let z : ◌≡◌ {A = ℕ} 0 1 = cc in absurd (omega arith) | false ↦ λ k. first_behind o xs ys k f ] e

-- A state by its parts.
abbrev state : Track → Phase → Bool → State
state t p c = record { track = t; phase = p; clear = c }

pub same_state : {t t' : Track} {p p' : Phase} {c c' : Bool} → t ≡ t' → p ≡ p' → c ≡ c' → state t p c ≡ state t' p' c'
same_state {t} {t'} {p} {p'} {c} {c'} a b d =
    ap (λ (x : Track). state x p c) a ∙ (ap (λ (x : Phase). state t' x c) b ∙ ap (λ (x : Bool). state t' p' x) d)

does_accepts : (sheet : Values) (m : Meaning) (s : State) (c : Call) (r : Refusal) → (does sheet m s c).answer ≡ Err r → ⊥
does_accepts sheet m s (Slope p g) r e = let z : ◌≡◌ {A = ℕ} 0 1 = cc in omega arith
does_accepts sheet m s (Announce n p d v) r e = let z : ◌≡◌ {A = ℕ} 0 1 = cc in omega arith
does_accepts sheet m s (Withdraw n) r e = let z : ◌≡◌ {A = ℕ} 0 1 = cc in omega arith
does_accepts sheet m s (Ceiling p v) r e = let z : ◌≡◌ {A = ℕ} 0 1 = cc in omega arith
does_accepts sheet m s (Lift p) r e = let z : ◌≡◌ {A = ℕ} 0 1 = cc in omega arith
does_accepts sheet m s (Sample p v) r e = let z : ◌≡◌ {A = ℕ} 0 1 = cc in omega arith
does_accepts sheet m s Release r e = let z : ◌≡◌ {A = ℕ} 0 1 = cc in omega arith

-- As the lists are left that are not altered.
track_same : (ls ls' : Lists) → ListsUnaltered ls ls' → track_of ls' ≡ track_of ls
track_same ls ls' u =
    same_tracking (same_listing (ap (map section_of) u.0.sequence_same) u.0.room_same)
    (same_listing (ap (map target_of) u.1.sequence_same) u.1.room_same)
    (same_listing (ap (map ceiling_of) u.2.sequence_same) u.2.room_same)

module _ {M : Type 0} (meaning : M → Meaning) (c : Call) (before : Mission M) (ls ls' : Lists) (kept : ListsKept ls ls') where
  -- the call is refused, and neither the mission nor a list is altered
  pub refused : (r : Refusal) → first (grounds (meaning before.model) (state_of before ls) c) ≡ Some r → ListsUnaltered ls ls' → Made meaning c (Err r) before before ls ls'
  refused r e u = record {
    answer = sym (ap (λ (o : Option Refusal). (decide o (state_of before ls) (does (sheet_of before) (meaning before.model) (state_of before ls) c)).answer) e);
    state = same_state (track_same ls ls' u) refl refl
        ∙ sym (ap (λ (o : Option Refusal). (decide o (state_of before ls) (does (sheet_of before) (meaning before.model) (state_of before ls) c)).state) e);
    train = record { sheet = refl; model = refl };
    kept = kept;
    nothing = λ r _. (refl, u);
  }

  -- the call is accepted, and does what it does
  pub accepted : (after : Mission M) (a : Answer) → first (grounds (meaning before.model) (state_of before ls) c) ≡ None →
      a ≡ (does (sheet_of before) (meaning before.model) (state_of before ls) c).answer →
      state_of after ls' ≡ (does (sheet_of before) (meaning before.model) (state_of before ls) c).state →
      SameTrain before after → Made meaning c a before after ls ls'
  accepted after a e ans st same = record {
    answer = ans ∙ sym (ap (λ (o : Option Refusal). (decide o (state_of before ls) (does (sheet_of before) (meaning before.model) (state_of before ls) c)).answer) e);
    state = st ∙ sym (ap (λ (o : Option Refusal). (decide o (state_of before ls) (does (sheet_of before) (meaning before.model) (state_of before ls) c)).state) e);
    train = same;
    kept = kept;
    nothing = λ r k. absurd (does_accepts (sheet_of before) (meaning before.model) (state_of before ls) c r (sym ans ∙ k));
  }

pub unaltered : (ls : Lists) → ListsUnaltered ls ls
unaltered ls = (same_list ls.sections, same_list ls.targets, same_list ls.ceilings)

pub kept : (ls : Lists) → ListsKept ls ls
kept ls = (kept_list ls.sections, kept_list ls.targets, kept_list ls.ceilings)

-- A call that is refused before it comes to a list.
pub turned_down : {M : Type 0} (meaning : M → Meaning) (c : Call) (m : Mission M) (ls : Lists) (r : Refusal) → first (grounds (meaning m.model) (state_of m ls) c) ≡ Some r → Made meaning c (Err r) m m ls ls
turned_down meaning c m ls r e = refused meaning c m ls ls (kept ls) r e (unaltered ls)

-- A call of the lists, by its own numbers and by what stands.
module _ {M : Type 0} (meaning : M → Meaning) (c : Call) (before : Mission M) (ls : Lists) where
  pub out_of_limits : (r : Refusal) → first (limits (meaning before.model) c) ≡ Some r → Made meaning c (Err r) before before ls ls
  out_of_limits r e = turned_down meaning c before ls r (first_here r (limits (meaning before.model) c) (obstacles (state_of before ls) c) e)

  module _ (within : first (limits (meaning before.model) c) ≡ None) (ls' : Lists) (kept : ListsKept ls ls') where
    pub obstructed : (r : Refusal) → first (obstacles (state_of before ls) c) ≡ Some r → ListsUnaltered ls ls' → Made meaning c (Err r) before before ls ls'
    obstructed r e u = refused meaning c before ls ls' kept r (first_behind (Some r) (limits (meaning before.model) c) (obstacles (state_of before ls) c) within e) u

    pub carried_out : (after : Mission M) → first (obstacles (state_of before ls) c) ≡ None → Ok None ≡ (does (sheet_of before) (meaning before.model) (state_of before ls) c).answer →
        state_of after ls' ≡ (does (sheet_of before) (meaning before.model) (state_of before ls) c).state → SameTrain before after → Made meaning c (Ok None) before after ls ls'
    carried_out after e ans st same = accepted meaning c before ls ls' kept after (Ok None) (first_behind None (limits (meaning before.model) c) (obstacles (state_of before ls) c) within e) ans st same

-- The law for a caller who keeps no record.

pub valid : (ls : Lists) → Valid (track_of ls)
valid ls = record { sections = ls.sections_valid; targets = ls.targets_valid; ceilings = ls.ceilings_valid }

pub law_of : {M : Type 0} (meaning : M → Meaning) → ((m : M) → Lawful (meaning m)) → {c : Call} {a : Answer} {before after : Mission M} {ls ls' : Lists} →
    Made meaning c a before after ls ls' → Law meaning c a before after ls ls'
law_of {M} meaning lawful {c} {a} {before} {after} {ls} {ls'} w h agrees =
    let there : Stepped = step (sheet_of before) (meaning before.model) (state_of before ls) c in
    let e : entry c a after ≡ entry_of c (step (sheet_of before) (meaning before.model) (state_of before ls) c) =
    ap (λ (x : Answer). record { call = c; answer = x; phase = after.phase }) w.answer ∙ ap (λ (x : State). record { call = c; answer = (step (sheet_of before) (meaning before.model) (state_of before ls) c).answer; phase = x.phase }) w.state in
    let k : Agrees (sheet_of before) (meaning before.model) (h ++ entry_of c there ∷ []) there.state = step_agrees (sheet_of before) (meaning before.model) (lawful before.model) h (state_of before ls) (valid ls) agrees c in
    let k₁ : Agrees (sheet_of before) (meaning before.model) (h ++ entry c a after ∷ []) there.state =
    subst (λ (x : Record). Agrees (sheet_of before) (meaning before.model) (h ++ x ∷ []) there.state) (sym e) k in
    let k₂ : Agrees (sheet_of before) (meaning before.model) (h ++ entry c a after ∷ []) (state_of after ls') =
    subst (λ (x : State). Agrees (sheet_of before) (meaning before.model) (h ++ entry c a after ∷ []) x) (sym w.state) k₁ in
    let k₃ : Agrees (sheet_of after) (meaning before.model) (h ++ entry c a after ∷ []) (state_of after ls') =
    subst (λ (x : Admitted). Agrees x.values (meaning before.model) (h ++ entry c a after ∷ []) (state_of after ls')) (sym w.train.sheet) k₂ in
    subst (λ (x : M). Agrees (sheet_of after) (meaning x) (h ++ entry c a after ∷ []) (state_of after ls')) (sym w.train.model) k₃

-- A mission as opened, with empty lists.
pub opened_agrees : {M : Type 0} (meaning : M → Meaning) (m : Mission M) (ls : Lists) (capacity : Capacity) → m.phase ≡ Free → m.clear ≡ false →
    track_of ls ≡ (empty_track capacity) → Agrees (sheet_of m) (meaning m.model) [] (state_of m ls)
opened_agrees meaning m ls capacity p c e =
    subst (λ (s : State). Agrees (sheet_of m) (meaning m.model) [] s) (sym (same_state e p c)) (start_agrees (sheet_of m) (meaning m.model) capacity)

-- A section within limits has a grade within limits.
pub fit_slope : (m : Meaning) (p : Distance) (g : Grade) → first (limits m (Slope p g)) ≡ None → is_unfit g.thousandths ≡ false
fit_slope m p g e =
    elim (nat_lt max_place p.millimetres) as (λ b. first (ground_for b PlaceOutOfLimits ∷ ground_for (is_unfit g.thousandths) GradeOutOfLimits ∷ []) ≡ None → is_unfit g.thousandths ≡ false) [
      | true ↦ λ k. grind arith
      | false ↦ λ k. elim (is_unfit g.thousandths) as (λ b. first (ground_for b GradeOutOfLimits ∷ []) ≡ None → b ≡ false) [ true ↦ λ k. grind arith | false ↦ λ k. refl ] k
    ] e

-- Whether the emergency brake may be let go.
pub let_go : (p : Phase) (b : Bool) → is_releasable p b ≡ true → first (ground_for (not (is_releasable p b)) NotReleasable ∷ []) ≡ None
let_go p b e = rw e

pub not_let_go : (p : Phase) (b : Bool) → is_releasable p b ≡ false → first (ground_for (not (is_releasable p b)) NotReleasable ∷ []) ≡ Some NotReleasable
not_let_go p b e = rw e
