use Rattle.std.proofs.Common.{take}
use Rattle.place_list.specs.Places.{place_of}
use Rattle.place_list.proofs.Ascents.{ascending}
use Rattle.place_list.proofs.list.PlaceList.items.Goals as goal

pub returns-clause-order : goal.returns-clause-order
returns-clause-order g c = ascending place_of (take c.args.self.now.len c.args.self.now.memory.now) c.args.self.now.ascending
