-- Which values a train sheet may have.
use Rattle.std.specs.Prelude.{Bool, true, false, ◌&&◌}
use Rattle.descriptions.specs.Fitting.{all_fit}
use Rattle.sheet.specs.Lines.{sheet_lines, list_of}
use Rattle.sheet.specs.declared.values.Values.{Values}
use Rattle.sheet.specs.declared.words.Service.{Service}
use Rattle.sheet.specs.declared.words.Service.TheVariants.{Passenger, Goods}

-- Every value is one that its line allows.
unfoldable pub in_ranges : Values → Bool
in_ranges v = all_fit sheet_lines (list_of v)

-- A goods brake stands only with a goods train: first the train, then its brake.
abbrev pub brake_allowed : Service → Service → Bool
brake_allowed Passenger Passenger = true
brake_allowed Passenger Goods = false
brake_allowed Goods Passenger = true
brake_allowed Goods Goods = true

-- What an admitted sheet may have.
abbrev pub admissible : Values → Bool
admissible v = in_ranges v && brake_allowed v.train v.brake
