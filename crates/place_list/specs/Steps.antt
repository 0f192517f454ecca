-- What the last step of an insert and of a take out leaves: the facts that the two calls promise, together.
use Rattle.std.specs.Prelude.{◌≡◌, ℕ, ◌+◌, ◌<◌, length, slice_index_or}
use Rattle.std.specs.List.{remove}
use Rattle.place_list.specs.Insertion.{ComesLast, PutIn, placed_in}
use Rattle.place_list.specs.Membership.{OneMore}
use Rattle.place_list.specs.Places.{place_of}
use Rattle.place_list.specs.Removal.{KeepsTurns, TakenFrom}
use Rattle.place_list.specs.Sequence.{Kept, room, sequence}
use Rattle.place_list.specs.declared.list.PlaceList.{PlaceList}
use Rattle.place_list.specs.declared.placed.Placed.{Placed}

-- x has been put in.
pub record Inserted {T : Type 0} (x : Placed T) (before after : PlaceList T) : Type 0 where
  pub result : sequence after ≡ placed_in place_of x (sequence before)
  pub stands : PutIn place_of x (sequence before) (sequence after)
  pub members : OneMore x (sequence before) (sequence after)
  pub turns : ComesLast place_of x (sequence before) (sequence after)
  pub room_less : room after + 1 ≡ room before
  pub kept : Kept before after

-- x has been taken from the index i.
pub record Removed {T : Type 0} (i : ℕ) (x : Placed T) (before after : PlaceList T) : Type 0 where
  pub inside : i < length (sequence before)
  pub taken : x ≡ slice_index_or (sequence before) i x
  pub result : sequence after ≡ remove (sequence before) i
  pub stood : TakenFrom i x (sequence before) (sequence after)
  pub members : OneMore x (sequence after) (sequence before)
  pub turns : KeepsTurns place_of x (sequence before) (sequence after)
  pub room_more : room after ≡ room before + 1
  pub kept : Kept before after
