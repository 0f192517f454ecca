-- Sections that each begin further on than the one before stand in the order of their places.
use Rattle.std.proofs.Common.{ℕ, ◌≤◌, List, [], ◌∷◌, arith}
use Rattle.std.specs.List.Sorted.{IsNonDecreasingBy}
use Rattle.units.specs.declared.quantities.Grade.{Grade}
use Rattle.place_list.specs.Places.{place_of}
use Rattle.place_list.specs.declared.placed.Placed.{Placed}
use Rattle.place_list.proofs.Ascents.{Climbs, ascends_is, non_decreasing}
use Rattle.history.proofs.Tracked.{Above, Ascends, section_place}
use Rattle.supervision.specs.Items.{sections_in}

climbs_from : (p : ℕ) (xs : List (Placed Grade)) → Above section_place p (sections_in xs) → Climbs place_of p xs
climbs_from p [] a = tt
climbs_from p (x ∷ xs) a = (omega (arith, a.0), climbs_from (place_of x) xs a.1)

climbs : (xs : List (Placed Grade)) → Ascends section_place (sections_in xs) → Climbs place_of 0 xs
climbs [] a = tt
climbs (x ∷ xs) a = (omega arith, climbs_from (place_of x) xs a)

pub in_order : (xs : List (Placed Grade)) → Ascends section_place (sections_in xs) → IsNonDecreasingBy place_of xs
in_order xs a = non_decreasing place_of xs (ascends_is place_of 0 xs (climbs xs a))
