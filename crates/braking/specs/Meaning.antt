-- What a braking model means, over plain numbers: its top speed, and for each question the exact deceleration and the verdict.
use Rattle.std.specs.Prelude.{◌≡◌, ℕ, ◌≤◌, Bool, true, nat_lt, ℤ, ◌≤ℤ◌}
use Rattle.units.specs.declared.limits.TheConstants.{STEEPEST_FALL, STEEPEST_RISE}
use Rattle.units.specs.Fractions.{Fraction, SignedFraction, ◌≼◌}

-- Speeds in tenths of km/h, the grade in thousandths.
pub record Question : Type 0 where
  pub speed : ℕ
  pub target_speed : ℕ
  pub grade : ℤ

-- The three distances, in order.
pub record Ordered (A : Type 0) (AtMost : A → A → Type 0) : Type 0 where
  pub control : A
  pub warning : A
  pub nominal : A
  pub control_first : AtMost control warning
  pub nominal_last : AtMost warning nominal

abbrev pub ExactDistances : Type 0
ExactDistances = Ordered Fraction ◌≼◌

abbrev pub ComputedDistances : Type 0
ComputedDistances = Ordered ℕ ◌≤◌

-- Weak, or three distances in mm: the exact ones, then the computed ones. A weak question has no distances, and no exact distance is negative.
pub data Verdict : Type 0 where
  weak : Verdict
  strong : ExactDistances → ComputedDistances → Verdict

pub record Meaning : Type 0 where
  -- the top speed
  pub top : ℕ
  -- the exact net deceleration, in units
  pub deceleration : Question → SignedFraction
  pub verdict : Question → Verdict

-- The questions that can be asked: no speed is above the top, and the grade is from the steepest fall to the steepest rise.
pub record Asked (top : ℕ) (q : Question) : Type 0 where
  pub slow : q.speed ≤ top
  pub target_slow : q.target_speed ≤ top
  pub not_below : STEEPEST_FALL.thousandths ≤ℤ q.grade
  pub not_above : q.grade ≤ℤ STEEPEST_RISE.thousandths

-- Whether the target binds: it does where the train is faster than the target allows.
abbrev pub binds : Meaning → Question → Bool
binds m q = nat_lt q.target_speed q.speed

abbrev pub Binds : Meaning → Question → Type 0
Binds m q = binds m q ≡ true
