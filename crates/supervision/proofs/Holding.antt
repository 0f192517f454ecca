-- The last of the ceilings that begin up to a place, as the speed that holds there.
use Rattle.std.proofs.Common.{◌≡◌, ◌∙◌, ℕ, Bool, cond, List, [], ◌∷◌, Some, Option, refl, ap}
use Rattle.std.specs.Prelude.{nat_le}
use Rattle.std.specs.Option.{option_map}
use Rattle.std.specs.List.{fold, last_or}
use Rattle.units.specs.declared.quantities.Speed.{Speed}
use Rattle.place_list.specs.declared.placed.Placed.{Placed}
use Rattle.history.specs.History.{SpeedCeiling}
use Rattle.history.specs.Zones.{held_at}
use Rattle.supervision.specs.Items.{ceilings_in}
use Rattle.supervision.proofs.Inside.{folded, folded_one}

pub last_mapped : {X Y : Type 0} (f : X → Y) (o : Option X) (xs : List X) → option_map f (last_or o xs) ≡ fold (λ a x. Some (f x)) (option_map f o) xs
last_mapped f o [] = refl
last_mapped f o (x ∷ xs) = last_mapped f (Some x) xs

-- The last item, or else o, as a fold over the items.
abbrev pub latest : {X : Type 0} → Option X → List X → Option X
latest o xs = fold (λ a x. Some x) o xs

-- The ceiling begins up to the place.
abbrev pub begins : (place : ℕ) → Placed Speed → Bool
begins place x = nat_le x.place.millimetres place

abbrev pub tenths_in : Placed Speed → ℕ
tenths_in x = x.item.tenths

-- The speed of the last ceiling that begins up to the place is the one that holds there.
pub held_inside : (place : ℕ) (xs : List (Placed Speed)) (o : Option (Placed Speed)) →
    folded (begins place) (λ a x. Some x) (option_map tenths_in) o xs ≡ held_at (λ (c : SpeedCeiling). c.place) (λ (c : SpeedCeiling). Some c.speed) (option_map tenths_in o) (ceilings_in xs) place
held_inside place [] o = refl
held_inside place (x ∷ xs) o =
    folded_one (begins place) (λ a x. Some x) (option_map tenths_in) o x xs
    ∙ ap (λ (k : Option ℕ). cond (begins place x) k (option_map tenths_in o)) (held_inside place xs (Some x))
