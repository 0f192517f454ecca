-- Line by line: the lines answered so far, with their records and what is shown of them.
use Rattle.std.proofs.Common.{◌≡◌, ℕ, ◌+◌, ◌<◌, ◌≤◌, List, [], ◌∷◌, ◌++◌, length, drop, set, take, Ok, Err, sym, refl, ap, ◌∙◌, subst, arith}
use Rattle.std.proofs.lemmas.List.{drop-set-lt, length-append, length-set, take_more_set}
use Rattle.braking.specs.Meaning.{Meaning}
use Rattle.calls.specs.declared.call.Call.{Call}
use Rattle.calls.specs.declared.phase.Phase.{Phase}
use Rattle.calls.specs.declared.record.Record.{Record}
use Rattle.call_text.specs.Lines.{TextAnswers}
use Rattle.call_text.specs.declared.call_fault.CallFault.{CallFault}
use Rattle.history.specs.Lines.{last_phase}
use Rattle.history.proofs.Splits.{last_push}
use Rattle.supervision.proofs.Follows.{Followed, follow_more}
use Rattle.supervision.specs.Missions.{Made}
use Rattle.supervision.specs.declared.lists.Lists.{Lists}
use Rattle.supervision.specs.declared.mission.Mission.{Mission}
use Rattle.session.specs.Answers.{Shows, of_fault, of_record}
use Rattle.session.specs.Lines.{Line, ReadsTo, calls_of}
use Rattle.session.specs.declared.shown.Shown.{Shown}

-- One line more is read.
reads_more : (text rest : List ℕ) (lines : List Line) (line : Line) (next : ℕ) → ReadsTo text lines rest → 0 < length rest → TextAnswers rest line next → ReadsTo text (lines ++ line ∷ []) (drop next rest)
reads_more text rest [] line next r some a = ((λ e. omega (arith, ap length r, ap length e)), (next, subst (λ (t : List ℕ). TextAnswers t line next) (sym r) a, ap (drop next) r))
reads_more text rest (l ∷ lines) line next r some a = (r.0, (r.1.0, r.1.1, reads_more (drop r.1.0 text) rest lines line next r.1.2 some a))

calls_fault : (lines : List Line) (f : CallFault) → calls_of (lines ++ Err f ∷ []) ≡ calls_of lines
calls_fault [] f = refl
calls_fault (Ok c ∷ lines) f = ap (λ (l : List Call). c ∷ l) (calls_fault lines f)
calls_fault (Err e ∷ lines) f = calls_fault lines f

calls_more : (lines : List Line) (c : Call) → calls_of (lines ++ Ok c ∷ []) ≡ calls_of lines ++ c ∷ []
calls_more [] c = refl
calls_more (Ok d ∷ lines) c = ap (λ (l : List Call). d ∷ l) (calls_more lines c)
calls_more (Err e ∷ lines) c = calls_more lines c

-- One line more is shown.
shows_fault : (p : Phase) (lines : List Line) (rs : List Record) (ss : List Shown) (f : CallFault) → Shows p lines rs ss → Shows p (lines ++ Err f ∷ []) rs (ss ++ of_fault f (last_phase p rs) ∷ [])
shows_fault p [] [] [] f h = (refl, tt)
shows_fault p [] [] (s ∷ ss) f h = absurd h
shows_fault p [] (r ∷ rs) [] f h = absurd h
shows_fault p [] (r ∷ rs) (s ∷ ss) f h = absurd h
shows_fault p (Err e ∷ lines) rs [] f h = absurd h
shows_fault p (Err e ∷ lines) rs (s ∷ ss) f h = (h.0, shows_fault p lines rs ss f h.1)
shows_fault p (Ok c ∷ lines) [] ss f h = absurd h
shows_fault p (Ok c ∷ lines) (r ∷ rs) [] f h = absurd h
shows_fault p (Ok c ∷ lines) (r ∷ rs) (s ∷ ss) f h = (h.0, h.1, shows_fault r.phase lines rs ss f h.2)

shows_call : (p : Phase) (lines : List Line) (rs : List Record) (ss : List Shown) (c : Call) (r : Record) → r.call ≡ c → Shows p lines rs ss → Shows p (lines ++ Ok c ∷ []) (rs ++ r ∷ []) (ss ++ of_record r ∷ [])
shows_call p [] [] [] c r e h = (e, refl, tt)
shows_call p [] [] (s ∷ ss) c r e h = absurd h
shows_call p [] (q ∷ rs) [] c r e h = absurd h
shows_call p [] (q ∷ rs) (s ∷ ss) c r e h = absurd h
shows_call p (Err f ∷ lines) rs [] c r e h = absurd h
shows_call p (Err f ∷ lines) rs (s ∷ ss) c r e h = (h.0, shows_call p lines rs ss c r e h.1)
shows_call p (Ok d ∷ lines) [] ss c r e h = absurd h
shows_call p (Ok d ∷ lines) (q ∷ rs) [] c r e h = absurd h
shows_call p (Ok d ∷ lines) (q ∷ rs) (s ∷ ss) c r e h = (h.0, h.1, shows_call q.phase lines rs ss c r e h.2)

-- The lines so far.
pub record Turned {M : Type 0} (meaning : M → Meaning) (first last : Mission M) (ls ls' : Lists) (text rest : List ℕ) (n k : ℕ) (records₀ records : List Record) (shown₀ shown : List Shown) : Type 0 where
  pub lines : List Line
  pub read : ReadsTo text lines rest
  pub lines_all : n ≡ length lines
  pub calls_all : k ≡ length (calls_of lines)
  pub lines_fit : n ≤ length shown
  pub calls_fit : k ≤ length records
  pub followed : Followed meaning first last ls ls' (calls_of lines) (take k records)
  pub phase : last.phase ≡ last_phase first.phase (take k records)
  pub shows : Shows first.phase lines (take k records) (take n shown)
  pub records_left : (i : ℕ) → k ≤ i → drop i records ≡ drop i records₀
  pub shown_left : (i : ℕ) → n ≤ i → drop i shown ≡ drop i shown₀

module _ {M : Type 0} (meaning : M → Meaning) (first last : Mission M) (ls ls' : Lists) (text rest : List ℕ) (n k : ℕ) (records₀ records : List Record) (shown₀ shown : List Shown)
    (w : Turned meaning first last ls ls' text rest n k records₀ records shown₀ shown) where
  -- a line with a fault
  pub turned_fault : (room : n < length shown) (some : 0 < length rest) (next : ℕ) (f : CallFault) (s : Shown) → TextAnswers rest (Err f) next → s ≡ of_fault f last.phase →
      Turned meaning first last ls ls' text (drop next rest) (n + 1) k records₀ records shown₀ (set shown n s)
  turned_fault room some next f s ans told =
      let more : take (n + 1) (set shown n s) ≡ take n shown ++ s ∷ [] = take_more_set shown n s room in
      let is : s ≡ of_fault f (last_phase first.phase (take k records)) = told ∙ ap (of_fault f) w.phase in
      record {
        lines = w.lines ++ Err f ∷ [];
        read = reads_more text rest w.lines (Err f) next w.read some ans;
        lines_all = omega (arith, w.lines_all, length-append w.lines (Err f ∷ []));
        calls_all = w.calls_all ∙ sym (ap length (calls_fault w.lines f));
        lines_fit = omega (arith, length-set shown n s);
        calls_fit = w.calls_fit;
        followed = rw (calls_fault w.lines f) w.followed;
        phase = w.phase;
        shows = rw (more, is) (shows_fault first.phase w.lines (take k records) (take n shown) f w.shows);
        records_left = w.records_left;
        shown_left = λ i l. drop-set-lt i shown n s (omega arith) ∙ w.shown_left i (omega arith);
      }

  -- a call
  pub turned_call : (room : n < length shown) (some : 0 < length rest) (next : ℕ) (c : Call) (r : Record) (s : Shown) (after : Mission M) (ls'' : Lists) → TextAnswers rest (Ok c) next → k < length records → r.call ≡ c → r.phase ≡ after.phase →
      Made meaning c r.answer last after ls' ls'' → s ≡ of_record r →
      Turned meaning first after ls ls'' text (drop next rest) (n + 1) (k + 1) records₀ (set records k r) shown₀ (set shown n s)
  turned_call room some next c r s after ls'' ans space call phase made told =
      let more : take (n + 1) (set shown n s) ≡ take n shown ++ s ∷ [] = take_more_set shown n s room in
      let longer : take (k + 1) (set records k r) ≡ take k records ++ r ∷ [] = take_more_set records k r space in
      record {
        lines = w.lines ++ Ok c ∷ [];
        read = reads_more text rest w.lines (Ok c) next w.read some ans;
        lines_all = omega (arith, w.lines_all, length-append w.lines (Ok c ∷ []));
        calls_all = omega (arith, w.calls_all, ap length (calls_more w.lines c), length-append (calls_of w.lines) (c ∷ []));
        lines_fit = omega (arith, length-set shown n s);
        calls_fit = omega (arith, length-set records k r);
        followed = rw (calls_more w.lines c, longer) (follow_more meaning first last after ls ls' ls'' (calls_of w.lines) (take k records) c r w.followed call phase made);
        phase = rw longer (sym phase ∙ sym (last_push first.phase (take k records) r));
        shows = rw (longer, more, told) (shows_call first.phase w.lines (take k records) (take n shown) c r call w.shows);
        records_left = λ i l. drop-set-lt i records k r (omega arith) ∙ w.records_left i (omega arith);
        shown_left = λ i l. drop-set-lt i shown n s (omega arith) ∙ w.shown_left i (omega arith);
      }
