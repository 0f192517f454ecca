use Rattle.std.proofs.Common.{refl}
use Rattle.stopping.specs.Stops.{speed_reached, speed_reached_up, net_exact, net_positive, exact_control, exact_distances, computed_distances, verdict}
use Rattle.models.specs.Formulas.{reaction_time, factors}
use Rattle.models.specs.Vl.{vl}
use Rattle.figures.proofs.distances_on_the_level.Goals as goal

pub returns : goal.returns
unfolding speed_reached speed_reached_up net_exact net_positive exact_control exact_distances computed_distances verdict reaction_time factors vl
returns c = (refl, refl, refl)
