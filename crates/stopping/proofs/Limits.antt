-- The stop that a struct stands for is within limits.
use Rattle.units.specs.Fractions.{Fraction}
use Rattle.stopping.specs.Stops.{Limited}
use Rattle.stopping.specs.Steps.{stop_of}
use Rattle.stopping.specs.declared.stop.Stop.{Stop}

pub limited : (s : Stop) (exact : Fraction) → Limited (stop_of s exact)
limited s exact = record { slow = s.slow; target_slow = s.target_slow; brief = s.reaction.brief; not_steeper_down = s.not_steeper_down; not_steeper_up = s.not_steeper_up; warning_brief = s.lead.warning.brief; hysteresis_brief = s.lead.hysteresis.brief }
