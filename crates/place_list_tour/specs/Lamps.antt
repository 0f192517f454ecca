-- The key of each lamp.
use Rattle.std.specs.Prelude.{ℕ}
use Rattle.place_list_tour.specs.declared.lamp.colour.Lamp.{Lamp}
use Rattle.place_list_tour.specs.declared.lamp.colour.Lamp.TheVariants.{Amber, Green, Red}

abbrev pub lamp_number : Lamp → ℕ
lamp_number Red = 1
lamp_number Amber = 2
lamp_number Green = 3
