-- A mission with its lists as the state of a step, and what a call of it promises.
use Rattle.std.specs.Prelude.{◌≡◌, [], ◌∷◌, ◌++◌, Some, None, Ok, Err, Result}
use Rattle.sheet.specs.declared.values.Values.{Values}
use Rattle.braking.specs.Meaning.{Meaning}
use Rattle.calls.specs.Answers.{Answer}
use Rattle.calls.specs.declared.call.Call.{Call}
use Rattle.calls.specs.declared.phase.Phase.{Phase}
use Rattle.calls.specs.declared.record.Record.{Record}
use Rattle.calls.specs.declared.refusal.Refusal.{Refusal}
use Rattle.history.specs.Agrees.{Agrees}
use Rattle.history.specs.History.{History}
use Rattle.history.specs.State.{State}
use Rattle.history.specs.Step.{step}
use Rattle.supervision.specs.Lists.{ListsKept, ListsUnaltered, track_of}
use Rattle.supervision.specs.declared.lists.Lists.{Lists}
use Rattle.supervision.specs.declared.mission.Mission.{Mission}
use Rattle.supervision.specs.declared.sampled.Sampled.{Sampled}

-- The mission's sheet.
abbrev pub sheet_of : {M : Type 0} → Mission M → Values
sheet_of m = m.sheet.values

-- The mission with its lists.
abbrev pub state_of : {M : Type 0} → Mission M → Lists → State
state_of m ls = record { track = track_of ls; phase = m.phase; clear = m.clear }

-- The answer in a result.
abbrev pub answer_of : Result Phase Refusal → Answer
answer_of (Ok _) = Ok None
answer_of (Err r) = Err r

abbrev pub sample_answer_of : Result Sampled Refusal → Answer
sample_answer_of (Ok s) = Ok (Some s.zone)
sample_answer_of (Err r) = Err r

-- The sheet and the model stay.
pub record SameTrain {M : Type 0} (before after : Mission M) : Type 0 where
  pub sheet : after.sheet ≡ before.sheet
  pub model : after.model ≡ before.model

-- The call c was answered a: what it was answered and what is then there is by the step; the sheet, the model and whose memory it is stay,
-- and a refusal alters nothing.
pub record Made {M : Type 0} (meaning : M → Meaning) (c : Call) (a : Answer) (before after : Mission M) (ls ls' : Lists) : Type 0 where
  pub answer : a ≡ (step (sheet_of before) (meaning before.model) (state_of before ls) c).answer
  pub state : state_of after ls' ≡ (step (sheet_of before) (meaning before.model) (state_of before ls) c).state
  pub train : SameTrain before after
  pub kept : ListsKept ls ls'
  pub nothing : (r : Refusal) → a ≡ Err r → (after ≡ before) × ListsUnaltered ls ls'

-- The entry that the call leaves in the history.
abbrev pub entry : {M : Type 0} → Call → Answer → Mission M → Record
entry c a after = record { call = c; answer = a; phase = after.phase }

-- Whatever history keeps the three lines and agrees with the mission and its lists before the call: with the call behind it, it does so after the call.
abbrev pub Law : {M : Type 0} → (M → Meaning) → Call → Answer → (before after : Mission M) → (ls ls' : Lists) → Type 0
Law meaning c a before after ls ls' = (h : History) → Agrees (sheet_of before) (meaning before.model) h (state_of before ls) →
    Agrees (sheet_of after) (meaning after.model) (h ++ entry c a after ∷ []) (state_of after ls')
