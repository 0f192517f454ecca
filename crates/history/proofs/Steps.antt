-- Each step keeps the three lines, and what clear says.
use Rattle.std.proofs.Common.{◌≡◌, ℕ, ◌<◌, ◌≤◌, max, Bool, true, false, not, [], ◌∷◌, ◌++◌, ℤ, Some, None, Err, sym, refl, ap, ◌∙◌, subst, inl, inr, arith}
use Rattle.std.proofs.lemmas.Bool.{cases_lt, ltb-true}
use Rattle.units.specs.declared.quantities.Distance.{Distance}
use Rattle.units.specs.declared.quantities.Speed.{Speed}
use Rattle.braking.specs.Laws.{Lawful, Sound}
use Rattle.braking.specs.Meaning.{Meaning, Question, Asked, Binds}
use Rattle.calls.specs.declared.call.Call.{Call}
use Rattle.calls.specs.declared.call.Call.TheVariants.{Slope, Announce, Withdraw, Ceiling, Lift, Sample, Release}
use Rattle.calls.specs.declared.phase.Phase.{Phase}
use Rattle.calls.specs.declared.phase.Phase.TheVariants.{Free, Warning, Emergency}
use Rattle.calls.specs.declared.record.Record.{Record}
use Rattle.calls.specs.declared.refusal.Refusal.{Refusal}
use Rattle.calls.specs.declared.zone.Zone.{Zone}
use Rattle.calls.specs.Zones.{max_zone}
use Rattle.calls.specs.declared.zone.Zone.TheVariants as zones
use Rattle.sheet.specs.declared.values.Values.{Values}
use Rattle.history.specs.History.{History, SpeedCeiling, Target, Accepts, Bound, CeilingHolds, rear_of, sample}
use Rattle.history.specs.Lines.{FarAbove, Lines, LastSampleJustifies, Reason, MustBrake, MayRelease, On}
use Rattle.history.specs.State.{State, is_unfit}
use Rattle.history.specs.Zones.{ceiling_zone, question, target_zone, largest_zone, zone_of, zone}
use Rattle.history.specs.Step.{Stepped, step, does, decide, first, grounds, next_phase, is_releasable}
use Rattle.history.specs.Runs.{entry_of}
use Rattle.history.proofs.Grounds.{groundless}
use Rattle.history.proofs.Tracked.{Tracks, valid_fit}
use Rattle.history.proofs.Splits.{last_new, last_refused, not_true}
use Rattle.history.proofs.Grades.{least_fit}
use Rattle.history.proofs.Tracks.{ahead_is, ahead_one, ceiling_found, ceiling_is, same_front, same_speed}
use Rattle.history.proofs.Zones.{must_control, control_may, clear_may_release, clear_under, control_far, binding_zone, both_clear, either_control, far_control, first_control, second_control, one_control, all_clear, some_control, next_control, next_came, clear_is}

abbrev asking : ℕ → ℕ → ℤ → Question
asking v w g = record { speed = v; target_speed = w; grade = g }

same_question : (v v' w w' : ℕ) (g g' : ℤ) → v ≡ v' → w ≡ w' → g ≡ g' → asking v w g ≡ asking v' w' g'
same_question v v' w w' g g' a b c = grind arith

-- A binding question with a fit grade can be asked.
fit_asked : (m : Meaning) (v w : ℕ) (g : ℤ) → v ≤ m.top → Binds m (asking v w g) → is_unfit g ≡ false → Asked m.top (asking v w g)
fit_asked m v w g l b f = let lower : w < v = ltb-true w v b in grind arith

-- The question of a target at a sample, by the state's sections.
abbrev pub asked_at : (sheet : Values) → State → (front v : ℕ) → Target → Question
asked_at sheet s front v t = question s.track.sections.items (rear_of sheet front) front v t

-- What is known of clear in the state that an entry leaves.
abbrev pub Known : (sheet : Values) → Meaning → History → State → Type 0
Known sheet m h s = s.clear ≡ true → LastSampleJustifies sheet m h

-- The lines at the entry of a step, and what is known after it.
abbrev pub Good : (sheet : Values) → Meaning → History → Call → Stepped → Type 0
Good sheet m h c r = Lines sheet m h (entry_of c r) × Known sheet m (h ++ entry_of c r ∷ []) r.state

module _ (sheet : Values) (m : Meaning) (law : Lawful m) (h : History) (s : State) (k : Tracks sheet h s) (known : Known sheet m h s) where
  -- an entry that keeps the phase and is no accepted sample
  quiet : (e : Record) → e.phase ≡ s.phase → ((front v : ℕ) → Accepts e (sample front v) → ⊥) → Lines sheet m h e
  quiet e same never = grind arith

  -- a refused call alters nothing
  good_refused : (c : Call) (r : Refusal) → Good sheet m h c (record { answer = Err r; state = s })
  good_refused c r =
      let e : Record = record { call = c; answer = Err r; phase = s.phase } in (
        quiet e refl (λ front v a. a.1),
        λ clear. let w = known clear in
            record {
              before = w.before;
              entry = w.entry;
              last = last_refused h w.before w.entry e (λ x. x) w.last;
              front = w.front;
              speed = w.speed;
              sampled = w.sampled;
              not_too_fast = w.not_too_fast;
              all_let_go = w.all_let_go;
              not_above = w.not_above;
            },
      )

  -- the question of a binding target is the computed one
  pub asks : (front v : ℕ) (t : Target) (q : Question) → Bound sheet m h front v t q → q ≡ asked_at sheet s front v t
  asks front v t q b = same_question q.speed v q.target_speed t.speed q.grade _ b.asks_speed b.asks_target (ahead_one sheet h s k front t.place q.grade b.asks_grade)

  fit : (front v : ℕ) (t : Target) → is_unfit (asked_at sheet s front v t).grade ≡ false
  fit front v t = least_fit s.track.sections.items (rear_of sheet front) (max front t.place) (valid_fit s.track.sections.items k.valid.sections)

  sound : (front v : ℕ) (t : Target) → Binds m (asked_at sheet s front v t) → v ≤ m.top → Sound (m.verdict (asked_at sheet s front v t))
  sound front v t b l = law.sound (asked_at sheet s front v t) (fit_asked m v t.speed _ l b (fit front v t)) b

  zone_is : (front v : ℕ) (t : Target) → Binds m (asked_at sheet s front v t) → target_zone m s.track.sections.items (rear_of sheet front) front v t ≡ zone_of (m.verdict (asked_at sheet s front v t)) front t.place
  zone_is front v t b = binding_zone m s.track.sections.items (rear_of sheet front) front v t b

  binding : (front v : ℕ) (t : Target) (q : Question) → Bound sheet m h front v t q → Binds m (asked_at sheet s front v t)
  binding front v t q b = subst (Binds m) (asks front v t q b) b.binds

  too_fast_zone : (front v : ℕ) → m.top < v → zone sheet m s.track front v ≡ zones.Control
  too_fast_zone front v l = grind arith

  -- the largest of the targets, and that of the ceiling
  abbrev targets_zone : (front v : ℕ) → Zone
  targets_zone front v = largest_zone m s.track.sections.items (rear_of sheet front) front v s.track.targets.items

  abbrev under_zone : (front v : ℕ) → Zone
  under_zone front v = ceiling_zone s.track.ceilings.items front v

  slow_zone : (front v : ℕ) → v ≤ m.top → zone sheet m s.track front v ≡ max_zone (targets_zone front v) (under_zone front v)
  slow_zone front v l = grind arith

  near_zone : (front v : ℕ) → v ≤ m.top → (t : Target) (q : Question) → Bound sheet m h front v t q → MustBrake (m.verdict q) front t.place → zone sheet m s.track front v ≡ zones.Control
  near_zone front v l t q b must =
      let slow = binding front v t q b in
      let must' : MustBrake (m.verdict (asked_at sheet s front v t)) front t.place = subst (λ (q : Question). MustBrake (m.verdict q) front t.place) (asks front v t q b) must in
      let three : target_zone m s.track.sections.items (rear_of sheet front) front v t ≡ zones.Control = zone_is front v t slow ∙ must_control _ front t.place (sound front v t slow l) must' in
      slow_zone front v l ∙ first_control (targets_zone front v) (under_zone front v) (one_control m s.track.sections.items (rear_of sheet front) front v s.track.targets.items t (k.targets.listed t b.stands) three)

  far_zone : (front v : ℕ) (c : SpeedCeiling) → CeilingHolds h front c → FarAbove v c → zone sheet m s.track front v ≡ zones.Control
  far_zone front v c holds far =
      elim (cases_lt m.top v) [
        | inl fast ↦ too_fast_zone front v fast
        | inr slow ↦ slow_zone front v slow ∙ second_control (targets_zone front v) (under_zone front v) (far_control _ c v (ceiling_is sheet h s k front c holds) far)
      ]

  reason : (front v : ℕ) → zone sheet m s.track front v ≡ zones.Control → Reason sheet m h front v
  reason front v three =
      elim (cases_lt m.top v) [
        | inl fast ↦ inl fast
        | inr slow ↦
            elim (either_control (targets_zone front v) (under_zone front v) (sym (slow_zone front v slow) ∙ three)) [
              | inl near ↦
                  let w = some_control m s.track.sections.items (rear_of sheet front) front v s.track.targets.items near in
                  inr (inl (
                    slow,
                    (
                      w.0,
                      asked_at sheet s front v w.0,
                      record { stands = k.targets.stands w.0 w.1; asks_speed = refl; asks_target = refl; asks_grade = ahead_is sheet h s k front w.0.place; binds = w.2 },
                      control_may _ front w.0.place (sound front v w.0 w.2 slow) (sym (zone_is front v w.0 w.2) ∙ w.3),
                    ),
                  ))
              | inr far ↦
                  let w = control_far _ v far in
                  let there = ceiling_found sheet h s k front w.0 w.1 in
                  inr (inr (there.0, there.1, w.2 there.0 there.2))
            ]
      ]

  clear_there : (front v : ℕ) → zone sheet m s.track front v ≡ zones.Clear → v ≤ m.top → (t : Target) (q : Question) → Bound sheet m h front v t q → MayRelease (m.verdict q) front t.place
  clear_there front v none l t q b =
      let slow = binding front v t q b in
      let mine : target_zone m s.track.sections.items (rear_of sheet front) front v t ≡ zones.Clear = all_clear m s.track.sections.items (rear_of sheet front) front v s.track.targets.items t (k.targets.listed t b.stands) (both_clear (targets_zone front v) (under_zone front v) (sym (slow_zone front v l) ∙ none)).0 in
      subst (λ (q : Question). MayRelease (m.verdict q) front t.place) (sym (asks front v t q b)) (clear_may_release _ front t.place (sound front v t slow l) (sym (zone_is front v t slow) ∙ mine))

  under_there : (front v : ℕ) → zone sheet m s.track front v ≡ zones.Clear → v ≤ m.top → (c : SpeedCeiling) → CeilingHolds h front c → v ≤ c.speed
  under_there front v none l c holds =
      clear_under _ c.speed v (ceiling_is sheet h s k front c holds) (both_clear (targets_zone front v) (under_zone front v) (sym (slow_zone front v l) ∙ none)).1

  good_sample : (p : Distance) (w : Speed) → Good sheet m h (Sample p w) (does sheet m s (Sample p w))
  good_sample p w =
      let e : Record = entry_of (Sample p w) (does sheet m s (Sample p w)) in
      let on : zone sheet m s.track p.millimetres w.tenths ≡ zones.Control → On e = next_control s.phase (zone sheet m s.track p.millimetres w.tenths) in (
        record {
          in_time = record {
            too_fast = λ front' v' a l. on (too_fast_zone p.millimetres w.tenths (omega (arith, same_speed p w front' v' a.0)));
            too_near = λ front' v' a l t q b must.
                let ev : v' ≡ w.tenths = same_speed p w front' v' a.0 in
                let ef : front' ≡ p.millimetres = same_front p w front' v' a.0 in
                on (near_zone p.millimetres w.tenths (omega arith) t q
                (subst (λ (x : ℕ). Bound sheet m h p.millimetres x t q) ev (subst (λ (x : ℕ). Bound sheet m h x v' t q) ef b))
                (subst (λ (x : ℕ). MustBrake (m.verdict q) x t.place) ef must));
            too_far_above = λ front' v' a c holds far.
                let ev : v' ≡ w.tenths = same_speed p w front' v' a.0 in
                let ef : front' ≡ p.millimetres = same_front p w front' v' a.0 in
                on (far_zone p.millimetres w.tenths c (subst (λ (x : ℕ). CeilingHolds h x c) ef holds) (subst (λ (x : ℕ). FarAbove x c) ev far));
          };
          for_a_reason = λ off came. (p.millimetres, w.tenths, (refl, tt), reason p.millimetres w.tenths (next_came s.phase (zone sheet m s.track p.millimetres w.tenths) (λ y. off (k.phase ∙ y)) came));
          when_justified = λ was off. absurd (off (ap (λ (y : Phase). next_phase y (zone sheet m s.track p.millimetres w.tenths)) (sym k.phase ∙ was)));
        },
        λ clear.
            let none : zone sheet m s.track p.millimetres w.tenths ≡ zones.Clear = clear_is _ clear in
            let slow : w.tenths ≤ m.top = grind arith in
            record { before = h; entry = e; last = last_new h e; front = p.millimetres; speed = w.tenths; sampled = (refl, tt); not_too_fast = slow; all_let_go = clear_there p.millimetres w.tenths none slow; not_above = under_there p.millimetres w.tenths none slow },
      )

  released : (p : Phase) (b : Bool) → not (is_releasable p b) ≡ false → b ≡ true
  released Free b e = grind arith
  released Warning b e = grind arith
  released Emergency true e = refl
  released Emergency false e = not_true (sym e)

  good_release : s.clear ≡ true → Good sheet m h Release (does sheet m s Release)
  good_release clear = grind arith

  good_does : (c : Call) → first (grounds m s c) ≡ None → Good sheet m h c (does sheet m s c)
  good_does (Slope p g) none = grind arith
  good_does (Announce n p d w) none = grind arith
  good_does (Withdraw n) none = grind arith
  good_does (Ceiling p w) none = grind arith
  good_does (Lift p) none = grind arith
  good_does (Sample p w) none = good_sample p w
  good_does Release none = good_release (released s.phase s.clear (groundless (grounds m s Release) none).0)

  pub good_step : (c : Call) → Good sheet m h c (step sheet m s c)
  good_step c = elim (first (grounds m s c)) as (λ o. first (grounds m s c) ≡ o → Good sheet m h c (decide o s (does sheet m s c)))
      [ None ↦ λ e. good_does c e | Some r ↦ λ e. good_refused c r ] refl
