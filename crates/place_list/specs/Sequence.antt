-- The items that stand in a list, the room for more, and a list that is left alone.
use Rattle.std.specs.Prelude.{◌≡◌, ℕ, ◌-◌, min, List, length, take, drop}
use Rattle.std.specs.Borrow.{GName}
use Rattle.place_list.specs.declared.placed.Placed.{Placed}
use Rattle.place_list.specs.declared.list.PlaceList.{PlaceList}

-- The whole memory, in use or not.
abbrev pub memory_of : {T : Type 0} → PlaceList T → List (Placed T)
memory_of l = l.memory.now

-- Which loan of memory the list holds: two references to the same loan have the same name.
abbrev pub loan_of : {T : Type 0} → PlaceList T → GName
loan_of l = l.memory.ghost_name

-- The items of the list, in order: the part of the memory that is in use.
abbrev pub sequence : {T : Type 0} → PlaceList T → List (Placed T)
sequence l = take l.len (memory_of l)

-- How many items fit: as many as the memory holds, and no more than its greatest length.
abbrev pub capacity : {T : Type 0} → PlaceList T → ℕ
capacity l = min l.max_len (length (memory_of l))

-- How many more items fit.
abbrev pub room : {T : Type 0} → PlaceList T → ℕ
room l = capacity l - l.len

-- Nothing is altered: not the items, not the room, not the memory behind the items.
pub record Unaltered {T : Type 0} (before after : PlaceList T) : Type 0 where
  pub sequence_same : sequence after ≡ sequence before
  pub room_same : room after ≡ room before
  pub memory_same : memory_of after ≡ memory_of before

-- What a call keeps in any case: the greatest length, the memory's length, whose loan it is,
-- and what the memory holds behind the items that are in use after the call.
pub record Kept {T : Type 0} (before after : PlaceList T) : Type 0 where
  pub max_len_same : after.max_len ≡ before.max_len
  pub length_same : length (memory_of after) ≡ length (memory_of before)
  pub loan_same : loan_of after ≡ loan_of before
  pub rest_same : drop after.len (memory_of after) ≡ drop after.len (memory_of before)
