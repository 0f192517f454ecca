-- The sheets of the worked figures.
use Rattle.sheet.specs.declared.words.Model.TheVariants.{Scmt, Etcs}
use Rattle.sheet.specs.declared.words.Regime.TheVariants.{Operation}
use Rattle.sheet.specs.declared.words.Service.TheVariants.{Passenger}
use Rattle.sheet.specs.declared.words.LengthChoice.TheVariants.{Fixed}
use Rattle.sheet.specs.declared.values.Values.{Values}

-- Sheet A: scmt E V V, ep 0, lambda 100, length 400, LD, kr 100, tw 20, ti 30, eps 0.
abbrev pub sheet_a : Values
sheet_a = record { model = Scmt; regime = Operation; train = Passenger; brake = Passenger; ep = 0; lambda = 100; length = 400; lfren = Fixed; kr = 100; tw = 20; ti = 30; eps = 0 }

-- Sheet A with lambda 45 and kr 30.
abbrev pub weak_sheet : Values
weak_sheet = record sheet_a { lambda = 45; kr = 30 }

-- Sheet A as etcs, with kr 57.
abbrev pub etcs_sheet : Values
etcs_sheet = record sheet_a { model = Etcs; kr = 57 }
