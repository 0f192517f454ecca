-- What one more entry does to a history: how it splits, and what then stands.
use Rattle.std.proofs.Common.{◌≡◌, ◌⊎◌, false, true, [], ◌∷◌, ◌++◌, sym, refl, ap, ◌∙◌, subst, inl, inr, append_assoc, arith}
use Rattle.calls.specs.declared.call.Call.{Call}
use Rattle.calls.specs.declared.phase.Phase.{Phase}
use Rattle.calls.specs.declared.record.Record.{Record}
use Rattle.history.specs.History.{History, Accepts, AcceptedIn, StandsSince, WasAccepted}
use Rattle.history.specs.Lines.{LastAccepted, last_phase}

pub not_true : {P : Type 0} → false ≡ true → P
not_true e = grind arith

pub nil_split : (before : History) (e : Record) (after : History) → [] ≡ before ++ e ∷ after → ⊥
nil_split [] e after h = grind arith
nil_split (b ∷ bs) e after h = grind arith

-- An entry of h with r behind it is r, or one of h.
pub split_push : (h before : History) (r e : Record) (after : History) → h ++ r ∷ [] ≡ before ++ e ∷ after →
    ((h ≡ before) × (r ≡ e) × (after ≡ [])) ⊎ ((a : History) × (after ≡ a ++ r ∷ []) × (h ≡ before ++ e ∷ a))
split_push [] [] r e after s = inl (refl, cc, cc)
split_push [] (b ∷ bs) r e after s = let t : [] ≡ bs ++ e ∷ after = cc in absurd (nil_split bs e after t)
split_push (x ∷ h) [] r e after s = grind arith
split_push (x ∷ h) (b ∷ bs) r e after s =
    let t : h ++ r ∷ [] ≡ bs ++ e ∷ after = cc in
    elim (split_push h bs r e after t) [
      | inl w ↦ inl (cc, w.1, w.2)
      | inr w ↦ inr (w.0, w.1, cc)
    ]

pub last_push : (p : Phase) (h : History) (r : Record) → last_phase p (h ++ r ∷ []) ≡ r.phase
last_push p [] r = refl
last_push p (x ∷ h) r = last_push x.phase h r

-- A split of h is one of h with r behind it.
pub longer : (h before : History) (e : Record) (after : History) (r : Record) → h ≡ before ++ e ∷ after → h ++ r ∷ [] ≡ before ++ e ∷ (after ++ r ∷ [])
longer h before e after r s = ap (λ (t : History). t ++ r ∷ []) s ∙ append_assoc before (e ∷ after) (r ∷ [])

-- A new entry is the last; behind a refused one the last accepted stays so.
pub last_new : (h : History) (e : Record) → LastAccepted (h ++ e ∷ []) h e
last_new h e = record { after = []; split = refl; refused = λ b x a y acc. nil_split b x a y }

pub last_refused : (h before : History) (entry e : Record) → (WasAccepted e.answer → ⊥) → LastAccepted h before entry → LastAccepted (h ++ e ∷ []) before entry
last_refused h before entry e never w = record {
  after = w.after ++ e ∷ [];
  split = longer h before entry w.after e w.split;
  refused = λ b x a p acc. elim (split_push w.after b e x a p) [
    | inl y ↦ never (subst (λ (r : Record). WasAccepted r.answer) (sym y.1) acc)
    | inr y ↦ w.refused b x y.0 y.2 acc
  ];
}

-- What was last before an entry that is refused was last without it.
pub last_old : (h before : History) (entry e : Record) (w : LastAccepted (h ++ e ∷ []) before entry) (a : History) → w.after ≡ a ++ e ∷ [] → h ≡ before ++ entry ∷ a → LastAccepted h before entry
last_old h before entry e w a behind split = record {
  after = a;
  split = split;
  refused = λ b x more p acc. w.refused b x (more ++ e ∷ []) (behind ∙ longer a b x more e p) acc;
}

pub accepted_more : {h : History} {c : Call} (r : Record) → AcceptedIn h c → AcceptedIn (h ++ r ∷ []) c
accepted_more {h} r a = record { before = a.before; entry = a.entry; after = a.after ++ r ∷ []; split = longer h a.before a.entry a.after r a.split; accepts = a.accepts }

pub accepted_new : (h : History) {c : Call} (r : Record) → Accepts r c → AcceptedIn (h ++ r ∷ []) c
accepted_new h r a = grind arith

pub accepted_cases : (h : History) (c : Call) (r : Record) → AcceptedIn (h ++ r ∷ []) c → AcceptedIn h c ⊎ Accepts r c
accepted_cases h c r a =
    elim (split_push h a.before r a.entry a.after a.split) [
      | inl w ↦ grind arith
      | inr w ↦ grind arith
    ]

pub accepted_none : (c : Call) → AcceptedIn [] c → ⊥
accepted_none c a = nil_split a.before a.entry a.after a.split

-- What stands behind one more entry.
module _ (h : History) (adds : Call → Type 0) (takes_out : Call) (r : Record) where
  pub stands_more : StandsSince h adds takes_out → (Accepts r takes_out → ⊥) → StandsSince (h ++ r ∷ []) adds takes_out
  stands_more a n = record {
    before = a.before;
    entry = a.entry;
    after = a.after ++ r ∷ [];
    split = longer h a.before a.entry a.after r a.split;
    added = a.added;
    accepted = a.accepted;
    kept = λ w. elim (accepted_cases a.after takes_out r w) [ inl k ↦ a.kept k | inr k ↦ n k ];
  }

  pub stands_new : adds r.call → WasAccepted r.answer → StandsSince (h ++ r ∷ []) adds takes_out
  stands_new a acc = record { before = h; entry = r; after = []; split = refl; added = a; accepted = acc; kept = accepted_none takes_out }

  pub stands_cases : StandsSince (h ++ r ∷ []) adds takes_out → (StandsSince h adds takes_out × (Accepts r takes_out → ⊥)) ⊎ (adds r.call × WasAccepted r.answer)
  stands_cases a =
      elim (split_push h a.before r a.entry a.after a.split) [
        | inl w ↦ inr (subst (λ (e : Record). adds e.call) (sym w.1) a.added, subst (λ (e : Record). WasAccepted e.answer) (sym w.1) a.accepted)
        | inr w ↦
            let kept : AcceptedIn (w.0 ++ r ∷ []) takes_out → ⊥ = subst (λ (l : History). AcceptedIn l takes_out → ⊥) w.1 a.kept in
            inl (
              record { before = a.before; entry = a.entry; after = w.0; split = w.2; added = a.added; accepted = a.accepted; kept = λ k. kept (accepted_more r k) },
              λ k. kept (accepted_new w.0 r k),
            )
      ]

pub stands_none : (adds : Call → Type 0) (takes_out : Call) → StandsSince [] adds takes_out → ⊥
stands_none adds takes_out a = nil_split a.before a.entry a.after a.split
