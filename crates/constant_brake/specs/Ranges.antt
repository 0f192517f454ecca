-- Which numbers a maker may state of a brake.
use Rattle.std.specs.Prelude.{ℕ, Bool, ◌&&◌, nat_le}
use Rattle.units.specs.declared.limits.TheConstants.{MAX_SPEED}

-- In mm/s².
abbrev pub deceleration_fits : ℕ → Bool
deceleration_fits a = nat_le 300 a && nat_le a 2000

-- In tenths of a second.
abbrev pub reaction_fits : ℕ → Bool
reaction_fits t = nat_le t 200

-- In tenths of km/h.
abbrev pub top_fits : ℕ → Bool
top_fits v = nat_le v MAX_SPEED.tenths
