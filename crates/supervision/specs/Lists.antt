-- What the lists of a mission hold, and what the calls do to them.
use Rattle.std.specs.Prelude.{◌≡◌, min, List, length, Some, None, Ok, Err, Result}
use Rattle.calls.specs.declared.refusal.Refusal.{Refusal}
use Rattle.history.specs.State.{Capacity, Track, empty_track, full_capacity}
use Rattle.history.specs.Step.{Ground, first}
use Rattle.place_list.specs.Sequence.{Kept, Unaltered, loan_of, memory_of}
use Rattle.supervision.specs.Adding.{list_of}
use Rattle.supervision.specs.Items.{ceiling_of, section_of, target_of}
use Rattle.supervision.specs.declared.lists.Lists.{Lists}
use Rattle.supervision.specs.declared.memory.Memory.{Memory}

-- What stands in the lists, and how much room there is.
abbrev pub track_of : Lists → Track
track_of ls = record { sections = list_of section_of ls.sections; targets = list_of target_of ls.targets; ceilings = list_of ceiling_of ls.ceilings }

-- How much fits into lent memory.
abbrev pub capacity_of : Memory → Capacity
capacity_of memory = record {
  sections = min full_capacity.sections (length memory.sections.now);
  targets = min full_capacity.targets (length memory.targets.now);
  ceilings = min full_capacity.ceilings (length memory.ceilings.now);
}

-- The track of a mission as opened, in lent memory.
abbrev pub opened_track : Memory → Track
opened_track memory = empty_track (capacity_of memory)

-- The lists use just that lent memory, and it holds what they leave in it.
pub record LentBy (memory : Memory) (ls : Lists) : Type 0 where
  pub section_memory : memory_of ls.sections ≡ memory.sections.now
  pub section_loan : loan_of ls.sections ≡ memory.sections.ghost_name
  pub target_memory : memory_of ls.targets ≡ memory.targets.now
  pub target_loan : loan_of ls.targets ≡ memory.targets.ghost_name
  pub ceiling_memory : memory_of ls.ceilings ≡ memory.ceilings.now
  pub ceiling_loan : loan_of ls.ceilings ≡ memory.ceilings.ghost_name

-- What any call keeps of the lists, and lists that are not altered at all.
abbrev pub ListsKept : (before after : Lists) → Type 0
ListsKept before after = Kept before.sections after.sections × Kept before.targets after.targets × Kept before.ceilings after.ceilings

abbrev pub ListsUnaltered : (before after : Lists) → Type 0
ListsUnaltered before after = Unaltered before.sections after.sections × Unaltered before.targets after.targets × Unaltered before.ceilings after.ceilings

-- Where no ground holds the lists are then as this track says; else the first ground that holds is answered, and nothing is altered.
abbrev pub Changes : List Ground → Track → (before after : Lists) → Result (Unit {0}) Refusal → Type 0
Changes grounds changed before after (Ok _) = (first grounds ≡ None) × (track_of after ≡ changed) × ListsKept before after
Changes grounds changed before after (Err r) = (first grounds ≡ Some r) × ListsUnaltered before after × ListsKept before after
