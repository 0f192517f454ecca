-- What every approach keeps.
use Rattle.std.specs.Prelude.{◌<◌, ◌≤◌, ◌≤ℤ◌}
use Rattle.units.specs.declared.limits.TheConstants.{MAX_SPEED, STEEPEST_FALL, STEEPEST_RISE}
use Rattle.braking.specs.declared.approach.Approach.TheInside.{Inside}

pub record IsAnswerable (a : Inside) : Type 0 where
  pub slow : a.speed.tenths ≤ MAX_SPEED.tenths
  pub binding : a.target_speed.tenths < a.speed.tenths
  pub not_below : STEEPEST_FALL.thousandths ≤ℤ a.grade.thousandths
  pub not_above : a.grade.thousandths ≤ℤ STEEPEST_RISE.thousandths
