-- The worked figures follow by computing.
use mathlib.Core.Path.{refl}
use Rattle.stopping.specs.Stops.{speed_reached, speed_reached_up, net_exact, net_positive, exact_control, exact_distances, computed_distances, verdict}
use Rattle.models.specs.Formulas.{reaction_time, factors}
use Rattle.models.specs.Vl.{vl}
use Rattle.figures.specs.Stated.{Stated}

pub stated : Stated
unfolding speed_reached speed_reached_up net_exact net_positive exact_control exact_distances computed_distances verdict reaction_time factors vl
stated = record {
  fading_at_45 = refl;
  fading_at_100 = refl;
  slope_at_1 = refl;
  slope_at_minus_20 = refl;
  slope_at_minus_21 = refl;
  time_at_599 = refl;
  time_at_600 = refl;
  level = (refl, refl, refl);
  level_exactly = (refl, refl, refl);
  falling_reached = refl;
  falling_control = refl;
  too_weak = refl;
  etcs_control = refl;
}
