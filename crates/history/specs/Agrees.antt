-- What a mission with its lists has to do with a history: it holds of the empty history at the opening, and every call keeps it.
use Rattle.std.specs.Prelude.{◌≡◌, ℕ, true, List, Some, Ok}
use Rattle.place_list.specs.Membership.{In}
use Rattle.sheet.specs.declared.values.Values.{Values}
use Rattle.braking.specs.Meaning.{Meaning}
use Rattle.calls.specs.declared.phase.Phase.TheVariants.{Free}
use Rattle.calls.specs.declared.record.Record.{Record}
use Rattle.calls.specs.declared.zone.Zone.TheVariants.{Clear}
use Rattle.history.specs.History.{History, CeilingStands, SectionStands, TargetStands, sample}
use Rattle.history.specs.Lines.{HasOneCeilingAtMost, HasOneGrade, KeepsTheLines, LastAccepted, LastSampleJustifies, last_phase}
use Rattle.history.specs.State.{State}

-- The last accepted entry of the history is a sample that answered zone 0.
pub record LastAnsweredClear (h : History) : Type 0 where
  pub before : History
  pub entry : Record
  pub last : LastAccepted h before entry
  pub front : ℕ
  pub speed : ℕ
  pub sampled : entry.call ≡ sample front speed
  pub answered : entry.answer ≡ Ok (Some Clear)

-- What stands is in the list, and nothing else.
pub record ListedExactly {X : Type 0} (Stands : X → Type 0) (xs : List X) : Type 0 where
  pub listed : (x : X) → Stands x → In x xs
  pub stands : (x : X) → In x xs → Stands x

pub record Agrees (sheet : Values) (m : Meaning) (h : History) (s : State) : Type 0 where
  pub lines : KeepsTheLines sheet m h
  -- the history's last phase is the mission's
  pub phase : last_phase Free h ≡ s.phase
  -- exactly what stands is in the lists
  pub sections : ListedExactly (SectionStands h) s.track.sections.items
  pub targets : ListedExactly (TargetStands sheet h) s.track.targets.items
  pub ceilings : ListedExactly (CeilingStands h) s.track.ceilings.items
  pub one_grade : HasOneGrade sheet h
  pub one_ceiling : HasOneCeilingAtMost h
  -- the mission remembers a clear sample exactly where the last accepted call was one
  pub remembered : LastAnsweredClear h → s.clear ≡ true
  pub answered : s.clear ≡ true → LastAnsweredClear h
  -- and its exact distances then justify a release
  pub justified : s.clear ≡ true → LastSampleJustifies sheet m h
