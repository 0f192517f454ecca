-- The records so far are the run's, and the mission with its lists is in the state after it.
use Rattle.std.proofs.Common.{◌≡◌, false, List, [], ◌∷◌, ◌++◌, map, sym, refl, ap, ◌∙◌}
use Rattle.braking.specs.Meaning.{Meaning}
use Rattle.calls.specs.Answers.{Answer}
use Rattle.calls.specs.declared.call.Call.{Call}
use Rattle.calls.specs.declared.phase.Phase.{Phase}
use Rattle.calls.specs.declared.phase.Phase.TheVariants.{Free}
use Rattle.calls.specs.declared.record.Record.{Record}
use Rattle.history.specs.Runs.{entry_of, run, state_after}
use Rattle.history.specs.State.{Capacity, empty_track, State, start}
use Rattle.history.specs.Step.{Stepped, step}
use Rattle.history.proofs.Runs.{run_push, state_push}
use Rattle.sheet.specs.declared.values.Values.{Values}
use Rattle.sheet.specs.declared.admitted.Admitted.{Admitted}
use Rattle.supervision.proofs.Promises.{same_state}
use Rattle.supervision.specs.Lists.{track_of}
use Rattle.supervision.specs.Missions.{Made, SameTrain, sheet_of, state_of}
use Rattle.supervision.specs.declared.lists.Lists.{Lists}
use Rattle.supervision.specs.declared.mission.Mission.{Mission}

pub record Followed {M : Type 0} (meaning : M → Meaning) (first last : Mission M) (ls ls' : Lists) (cs : List Call) (rs : List Record) : Type 0 where
  pub records : rs ≡ run (sheet_of first) (meaning first.model) (state_of first ls) cs
  pub state : state_of last ls' ≡ state_after (sheet_of first) (meaning first.model) (state_of first ls) cs
  pub train : SameTrain first last

module _ {M : Type 0} (meaning : M → Meaning) (first last next : Mission M) (ls ls' ls'' : Lists) (cs : List Call) (rs : List Record) (c : Call) (r : Record) where
  -- the step from the last mission is the step from the state after the calls so far
  same_step : Followed meaning first last ls ls' cs rs →
      step (sheet_of last) (meaning last.model) (state_of last ls') c
      ≡ step (sheet_of first) (meaning first.model) (state_after (sheet_of first) (meaning first.model) (state_of first ls) cs) c
  same_step f =
      ap (λ (x : Admitted). step x.values (meaning last.model) (state_of last ls') c) f.train.sheet
      ∙ (ap (λ (m : M). step (sheet_of first) (meaning m) (state_of last ls') c) f.train.model
      ∙ ap (λ (s : State). step (sheet_of first) (meaning first.model) s c) f.state)

  pub follow_more : Followed meaning first last ls ls' cs rs → r.call ≡ c → r.phase ≡ next.phase → Made meaning c r.answer last next ls' ls'' →
      Followed meaning first next ls ls'' (cs ++ c ∷ []) (rs ++ r ∷ [])
  follow_more f call phase w =
      let same = same_step f in
      let answer : r.answer ≡ (step (sheet_of first) (meaning first.model) (state_after (sheet_of first) (meaning first.model) (state_of first ls) cs) c).answer =
      w.answer ∙ ap (λ (x : Stepped). x.answer) same in
      let state : state_of next ls'' ≡ (step (sheet_of first) (meaning first.model) (state_after (sheet_of first) (meaning first.model) (state_of first ls) cs) c).state =
      w.state ∙ ap (λ (x : Stepped). x.state) same in
      let entry : r ≡ entry_of c (step (sheet_of first) (meaning first.model) (state_after (sheet_of first) (meaning first.model) (state_of first ls) cs) c) =
      ap (λ (x : Call). record { call = x; answer = r.answer; phase = r.phase }) call
      ∙ (ap (λ (x : Answer). record { call = c; answer = x; phase = r.phase }) answer
      ∙ ap (λ (x : Phase). record { call = c; answer = (step (sheet_of first) (meaning first.model) (state_after (sheet_of first) (meaning first.model) (state_of first ls) cs) c).answer; phase = x }) (phase ∙ ap (λ (x : State). x.phase) state)) in
      record {
        records = ap (λ (l : List Record). l ++ r ∷ []) f.records
            ∙ (ap (λ (x : Record). run (sheet_of first) (meaning first.model) (state_of first ls) cs ++ x ∷ []) entry
            ∙ sym (run_push (sheet_of first) (meaning first.model) (state_of first ls) cs c));
        state = state ∙ sym (state_push (sheet_of first) (meaning first.model) (state_of first ls) cs c);
        train = record { sheet = w.train.sheet ∙ f.train.sheet; model = w.train.model ∙ f.train.model };
      }

-- The calls of a run are the calls that were made.
pub run_calls : (sheet : Values) (m : Meaning) (s : State) (cs : List Call) → map (λ (e : Record). e.call) (run sheet m s cs) ≡ cs
run_calls sheet m s [] = refl
run_calls sheet m s (c ∷ cs) = ap (λ (l : List Call). c ∷ l) (run_calls sheet m (step sheet m s c).state cs)

-- The run of a mission as opened, with empty lists.
pub opened_run : {M : Type 0} (meaning : M → Meaning) (m : Mission M) (sheet : Admitted) (model : M) (ls : Lists) (capacity : Capacity) (cs : List Call) →
    m.sheet ≡ sheet → m.model ≡ model → m.phase ≡ Free → m.clear ≡ false → track_of ls ≡ (empty_track capacity) →
    run (sheet_of m) (meaning m.model) (state_of m ls) cs ≡ run sheet.values (meaning model) (start (empty_track capacity)) cs
opened_run {M} meaning m sheet model ls capacity cs sh mo ph cl e =
    ap (λ (x : Admitted). run x.values (meaning m.model) (state_of m ls) cs) sh
    ∙ (ap (λ (x : M). run sheet.values (meaning x) (state_of m ls) cs) mo
    ∙ ap (λ (s : State). run sheet.values (meaning model) s cs) (same_state e ph cl))
