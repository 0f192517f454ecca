use Rattle.std.proofs.Common.{◌≡◌, drop}
use Rattle.calls.specs.Zones.{max_zone}
use Rattle.history.specs.Zones.{largest_zone}
use Rattle.supervision.specs.Items.{sections_in, targets_in}
use Rattle.supervision.proofs.zones.Train.largest_zone.Given as goal

abbrev pub invariant-loop-target : goal.invariant-loop-target
invariant-loop-target g l =
    max_zone l.largest (largest_zone (g.M.BrakingModel.meaning l.self.model.now) (sections_in l.self.sections.items.now) l.self.position.rear.millimetres l.self.position.front.millimetres l.self.speed.tenths (targets_in (drop l.target-index l.targets)))
    ≡ largest_zone (g.M.BrakingModel.meaning l.self.model.now) (sections_in l.self.sections.items.now) l.self.position.rear.millimetres l.self.position.front.millimetres l.self.speed.tenths (targets_in l.targets)
