-- The number of each zone, and the greater of two.
use Rattle.std.specs.Prelude.{cond, ℕ, nat_lt}
use Rattle.calls.specs.declared.zone.Zone.{Zone}
use Rattle.calls.specs.declared.zone.Zone.TheVariants.{Clear, Nominal, Warning, Control}

abbrev pub zone_number : Zone → ℕ
zone_number Clear = 0
zone_number Nominal = 1
zone_number Warning = 2
zone_number Control = 3

-- The one with the greater number.
abbrev pub max_zone : Zone → Zone → Zone
max_zone z w = cond (nat_lt (zone_number z) (zone_number w)) w z
