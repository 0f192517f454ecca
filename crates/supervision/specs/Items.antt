-- The items of the lists as sections, targets and ceilings over plain numbers.
use Rattle.std.specs.Prelude.{List, map}
use Rattle.units.specs.declared.quantities.Grade.{Grade}
use Rattle.units.specs.declared.quantities.Speed.{Speed}
use Rattle.place_list.specs.declared.placed.Placed.{Placed}
use Rattle.history.specs.History.{Section, SpeedCeiling, Target}
use Rattle.supervision.specs.declared.target.Target.{Target as TargetItem}

abbrev pub section_of : Placed Grade → Section
section_of x = record { place = x.place.millimetres; grade = x.item.thousandths }

abbrev pub target_of : Placed TargetItem → Target
target_of x = record { number = x.item.number; place = x.place.millimetres; speed = x.item.speed.tenths }

abbrev pub ceiling_of : Placed Speed → SpeedCeiling
ceiling_of x = record { place = x.place.millimetres; speed = x.item.tenths }

abbrev pub sections_in : List (Placed Grade) → List Section
sections_in xs = map section_of xs

abbrev pub targets_in : List (Placed TargetItem) → List Target
targets_in xs = map target_of xs

abbrev pub ceilings_in : List (Placed Speed) → List SpeedCeiling
ceilings_in xs = map ceiling_of xs
