-- What adding an item to one list does, and taking one out.
use Rattle.std.specs.Prelude.{◌≡◌, ℕ, ◌+◌, ◌-◌, Bool, Some, None, Ok, Err, Option, Result, map}
use Rattle.std.specs.List.{remove}
use Rattle.calls.specs.declared.refusal.Refusal.{Refusal}
use Rattle.calls.specs.declared.refusal.Refusal.TheVariants.{Conflict}
use Rattle.history.specs.State.{Listed}
use Rattle.history.specs.Step.{adding_obstacles, first}
use Rattle.place_list.specs.Insertion.{placed_in}
use Rattle.place_list.specs.Places.{place_of}
use Rattle.place_list.specs.Sequence.{Kept, Unaltered, room, sequence}
use Rattle.place_list.specs.declared.list.PlaceList.{PlaceList}
use Rattle.place_list.specs.declared.placed.Placed.{Placed}

-- A list by its items, each as what it stands for, and its room.
abbrev pub list_of : {T X : Type 0} → (Placed T → X) → PlaceList T → Listed X
list_of meant l = record { items = map meant (sequence l); room = room l }

-- The item is there where nothing stands in its way and there is room; else nothing is altered.
abbrev pub Added : {T : Type 0} → Bool → Placed T → (before after : PlaceList T) → Result (Unit {0}) Refusal → Type 0
Added taken x before after (Ok _) =
    (first (adding_obstacles taken (list_of (λ y. y) before)) ≡ None) × (sequence after ≡ placed_in place_of x (sequence before)) × (room after ≡ room before - 1) × Kept before after
Added taken x before after (Err e) = (first (adding_obstacles taken (list_of (λ y. y) before)) ≡ Some e) × Unaltered before after × Kept before after

-- The item that was found is gone; where none was, nothing is altered.
abbrev pub Taken : {T : Type 0} → (found : Option ℕ) → (before after : PlaceList T) → Result (Unit {0}) Refusal → Type 0
Taken (Some i) before after (Ok _) = (sequence after ≡ remove (sequence before) i) × (room after ≡ room before + 1) × Kept before after
Taken (Some i) before after (Err e) = ⊥
Taken None before after (Ok _) = ⊥
Taken None before after (Err e) = (e ≡ Conflict) × Unaltered before after × Kept before after
