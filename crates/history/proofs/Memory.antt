-- What a mission remembers: whether the last accepted call was a sample that answered zone 0.
use Rattle.std.proofs.Common.{◌≡◌, true, false, [], ◌∷◌, ◌++◌, Some, None, Ok, Err, sym, refl, ap, ◌∙◌, inl, inr}
use Rattle.units.specs.declared.quantities.Distance.{Distance}
use Rattle.units.specs.declared.quantities.Speed.{Speed}
use Rattle.sheet.specs.declared.values.Values.{Values}
use Rattle.braking.specs.Meaning.{Meaning}
use Rattle.calls.specs.declared.call.Call.{Call}
use Rattle.calls.specs.declared.call.Call.TheVariants.{Slope, Announce, Withdraw, Ceiling, Lift, Sample, Release}
use Rattle.calls.specs.declared.record.Record.{Record}
use Rattle.calls.specs.declared.refusal.Refusal.{Refusal}
use Rattle.calls.specs.declared.zone.Zone.{Zone}
use Rattle.calls.specs.declared.zone.Zone.TheVariants.{Clear}
use Rattle.history.specs.Agrees.{LastAnsweredClear}
use Rattle.history.specs.History.{History, WasAccepted}
use Rattle.history.specs.Runs.{entry_of}
use Rattle.history.specs.State.{State}
use Rattle.history.specs.Step.{Stepped, decide, does, first, grounds, step}
use Rattle.history.specs.Zones.{is_clear, zone}
use Rattle.history.proofs.Splits.{last_new, last_old, last_refused, not_true, split_push}
use Rattle.history.proofs.Zones.{clear_is}

-- Both ways, after a step.
pub record Remembers (h : History) (c : Call) (r : Stepped) : Type 0 where
  pub remembered : LastAnsweredClear (h ++ entry_of c r ∷ []) → r.state.clear ≡ true
  pub answered : r.state.clear ≡ true → LastAnsweredClear (h ++ entry_of c r ∷ [])

-- Where the last entry was accepted, it is the one that is spoken of.
new_answer : (h : History) (e : Record) → WasAccepted e.answer → LastAnsweredClear (h ++ e ∷ []) → e.answer ≡ Ok (Some Clear)
new_answer h e acc w =
    elim (split_push h w.before e w.entry w.last.after w.last.split) [
      | inl y ↦ ap (λ (r : Record). r.answer) y.1 ∙ w.answered
      | inr y ↦ absurd (w.last.refused y.0 e [] y.1 acc)
    ]

-- Where it was refused, what is spoken of stands before it.
old_answer : (h : History) (e : Record) (r : Refusal) → e.answer ≡ Err r → LastAnsweredClear (h ++ e ∷ []) → LastAnsweredClear h
old_answer h e r told w =
    elim (split_push h w.before e w.entry w.last.after w.last.split) [
      | inl y ↦
          let two : Err r ≡ Ok (Some Clear) = sym told ∙ (ap (λ (x : Record). x.answer) y.1 ∙ w.answered) in
          cc
      | inr y ↦ record { before = w.before; entry = w.entry; last = last_old h w.before w.entry e w.last y.0 y.1 y.2; front = w.front; speed = w.speed; sampled = w.sampled; answered = w.answered }
    ]

-- An accepted call that is no sample.
quiet : (h : History) (c : Call) (r : Stepped) → r.answer ≡ Ok None → r.state.clear ≡ false → Remembers h c r
quiet h c r none bars = record {
  remembered = λ w.
      let acc : WasAccepted r.answer = rw none tt in
      let two : Ok None ≡ Ok (Some Clear) = sym none ∙ new_answer h (entry_of c r) acc w in
      cc;
  answered = λ clear. not_true (sym bars ∙ clear);
}

module _ (sheet : Values) (m : Meaning) (h : History) (s : State) (remembered : LastAnsweredClear h → s.clear ≡ true) (answered : s.clear ≡ true → LastAnsweredClear h) where
  refused : (c : Call) (r : Refusal) → Remembers h c (record { answer = Err r; state = s })
  refused c r =
      let e : Record = record { call = c; answer = Err r; phase = s.phase } in
      record {
        remembered = λ w. remembered (old_answer h e r refl w);
        answered = λ clear.
            let w = answered clear in
            record { before = w.before; entry = w.entry; last = last_refused h w.before w.entry e (λ x. x) w.last; front = w.front; speed = w.speed; sampled = w.sampled; answered = w.answered };
      }

  sampled : (p : Distance) (v : Speed) → Remembers h (Sample p v) (does sheet m s (Sample p v))
  sampled p v =
      let z : Zone = zone sheet m s.track p.millimetres v.tenths in
      let e : Record = entry_of (Sample p v) (does sheet m s (Sample p v)) in
      record {
        remembered = λ w.
            let same : Ok (Some (zone sheet m s.track p.millimetres v.tenths)) ≡ Ok (Some Clear) = new_answer h e tt w in
            let clear : zone sheet m s.track p.millimetres v.tenths ≡ Clear = cc in
            ap is_clear clear;
        answered = λ clear. record { before = h; entry = e; last = last_new h e; front = p.millimetres; speed = v.tenths; sampled = refl; answered = ap (λ (x : Zone). Ok (Some x)) (clear_is z clear) };
      }

  done : (c : Call) → Remembers h c (does sheet m s c)
  done (Slope p g) = quiet h (Slope p g) (does sheet m s (Slope p g)) refl refl
  done (Announce n p d v) = quiet h (Announce n p d v) (does sheet m s (Announce n p d v)) refl refl
  done (Withdraw n) = quiet h (Withdraw n) (does sheet m s (Withdraw n)) refl refl
  done (Ceiling p v) = quiet h (Ceiling p v) (does sheet m s (Ceiling p v)) refl refl
  done (Lift p) = quiet h (Lift p) (does sheet m s (Lift p)) refl refl
  done (Sample p v) = sampled p v
  done Release = quiet h Release (does sheet m s Release) refl refl

  pub remembers : (c : Call) → Remembers h c (step sheet m s c)
  remembers c = elim (first (grounds m s c)) as (λ o. Remembers h c (decide o s (does sheet m s c))) [ None ↦ done c | Some r ↦ refused c r ]
