-- How a stop is worked out: the formulas exactly, as fractions, and the whole numbers that are computed.
use Rattle.std.specs.Prelude.{ℕ, ◌+◌, ◌-◌, ◌*◌, ◌≤◌, max, if◌then◌else◌, ℤ, pos, negsuc, ◌+ℤ◌, ◌-ℤ◌, ◌*ℤ◌, ◌≤ℤ◌, int_lt}
use Rattle.std.proofs.Common.{lit<}
use Rattle.std.proofs.Math.Nat.{le-add_right}
use Rattle.units.proofs.Sums.{sum_at_least}
use Rattle.units.specs.declared.limits.TheConstants.{MAX_SPEED}
use Rattle.units.specs.Fractions.{Fraction, SignedFraction, whole, ratio, ◌≼◌, ◌≺◌, ◌⊕◌, ◌⊖◌, ◌⊗◌, ◌⊘◌}
use Rattle.units.specs.Rounding.{ceiling}
use Rattle.braking.specs.Meaning.{Verdict, ExactDistances, ComputedDistances, weak, strong}

-- What a stop is worked out from.
pub record Stop : Type 0 where
  -- V and V0, in tenths of km/h
  pub speed : ℕ
  pub target_speed : ℕ
  -- T, in ticks
  pub reaction : ℕ
  -- G, in units
  pub slope : ℤ
  -- the deceleration of the brake alone, in units: exactly, and rounded down
  pub braking : Fraction
  pub rounded : ℕ
  -- the warning and the hysteresis time, in tenths of a second
  pub warning : ℕ
  pub hysteresis : ℕ

-- A whole number, 0 in place of one below zero.
abbrev pub natural : ℤ → ℕ
natural (pos n) = n
natural (negsuc n) = 0

-- V0 in fine steps.
abbrev pub target_fine_steps : Stop → ℕ
target_fine_steps s = 1000 * s.target_speed

-- 1,000 V - 9 G T / 250,000,000,000, times 250,000,000,000.
abbrev pub speed_left : Stop → ℤ
speed_left s = pos (250000000000 * (1000 * s.speed)) -ℤ (pos (9 * s.reaction) *ℤ s.slope)

-- b, in fine steps: the larger of 1,000 V0 and 1,000 V - 9 G T / 250,000,000,000.
unfoldable pub speed_reached : Stop → Fraction
speed_reached s = record { numerator = max (250000000000 * target_fine_steps s) (natural (speed_left s)); denominator = 250000000000; positive = lit< tt }

-- B: b rounded up.
unfoldable pub speed_reached_up : Stop → ℕ
unfolding speed_reached
speed_reached_up s = ceiling (speed_reached s).numerator (speed_reached s).denominator

-- d, in units: the exact deceleration of brake and slope together.
unfoldable pub net_exact : Stop → SignedFraction
net_exact s = record {
  numerator = pos s.braking.numerator +ℤ (pos s.braking.denominator *ℤ s.slope);
  denominator = s.braking.denominator;
  positive = s.braking.positive;
}

-- D: the same from the rounded one.
abbrev pub net : Stop → ℤ
net s = pos s.rounded +ℤ s.slope

-- The distance run in a reaction time of ticks: T b / 3,600,000,000.
abbrev pub reaction_distance : ℕ → Fraction → Fraction
reaction_distance ticks b = whole ticks ⊗ b ⊗ ratio 1 3600000000

-- The distance from braking: 625 (b² - v²) / (162 d), for a target of v fine steps.
abbrev pub braking_distance : Fraction → ℕ → Fraction → Fraction
braking_distance b v d = whole 625 ⊗ (b ⊗ b ⊖ whole (v * v)) ⊘ (whole 162 ⊗ d)

-- The distance run in a lead time of tenths of a second: t b / 360.
abbrev pub lead_distance : ℕ → Fraction → Fraction
lead_distance t b = whole t ⊗ b ⊗ ratio 1 360

-- d where it is above 0, as it is wherever there are distances.
unfoldable pub net_positive : Stop → Fraction
unfolding net_exact
net_positive s = record { numerator = natural (net_exact s).numerator; denominator = (net_exact s).denominator; positive = (net_exact s).positive }

unfoldable pub exact_control : Stop → Fraction
exact_control s = reaction_distance s.reaction (speed_reached s) ⊕ braking_distance (speed_reached s) (target_fine_steps s) (net_positive s)

abbrev pub exact_warning : Stop → Fraction
exact_warning s = exact_control s ⊕ lead_distance s.warning (speed_reached s)

unfoldable pub exact_distances : Stop → ExactDistances
exact_distances s = record {
  control = exact_control s;
  warning = exact_warning s;
  nominal = exact_warning s ⊕ lead_distance s.hysteresis (speed_reached s);
  control_first = sum_at_least (exact_control s) (lead_distance s.warning (speed_reached s));
  nominal_last = sum_at_least (exact_warning s) (lead_distance s.hysteresis (speed_reached s));
}

-- The computed distances: B and D in place of b and d, and each term rounded up.
abbrev pub computed_reaction : (ticks B : ℕ) → ℕ
computed_reaction ticks B = ceiling (ticks * B) 3600000000

abbrev pub computed_braking : (B v D : ℕ) → ℕ
computed_braking B v D = ceiling (625 * (B * B - v * v)) (162 * D)

abbrev pub computed_lead : (t B : ℕ) → ℕ
computed_lead t B = ceiling (t * B) 360

abbrev pub computed_control : Stop → ℕ
computed_control s = computed_reaction s.reaction (speed_reached_up s) + computed_braking (speed_reached_up s) (target_fine_steps s) (natural (net s))

abbrev pub computed_warning : Stop → ℕ
computed_warning s = computed_control s + computed_lead s.warning (speed_reached_up s)

unfoldable pub computed_distances : Stop → ComputedDistances
computed_distances s = record {
  control = computed_control s;
  warning = computed_warning s;
  nominal = computed_warning s + computed_lead s.hysteresis (speed_reached_up s);
  control_first = le-add_right (computed_control s) (computed_lead s.warning (speed_reached_up s));
  nominal_last = le-add_right (computed_warning s) (computed_lead s.hysteresis (speed_reached_up s));
}

-- Weak where D is under 500,000 units, a twentieth of a m/s².
unfoldable pub verdict : Stop → Verdict
verdict s = if int_lt (net s) (pos 500000) then weak else strong (exact_distances s) (computed_distances s)

-- The limits within which the computed distances are close to the exact ones.
pub record Limited (s : Stop) : Type 0 where
  pub slow : s.speed ≤ MAX_SPEED.tenths
  pub target_slow : s.target_speed ≤ MAX_SPEED.tenths
  pub brief : s.reaction ≤ 6000000000
  pub not_steeper_down : negsuc 4199999 ≤ℤ s.slope
  pub not_steeper_up : s.slope ≤ℤ pos 4200000
  pub warning_brief : s.warning ≤ 100
  pub hysteresis_brief : s.hysteresis ≤ 100

-- The rounded deceleration of the brake is at most the exact one, and less than 9 under it.
pub record Near (exact : Fraction) (rounded : ℕ) : Type 0 where
  pub down : whole rounded ≼ exact
  pub close : exact ≺ whole rounded ⊕ whole 9
