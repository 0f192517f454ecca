-- A brake whose stops are within limits and near their exact decelerations keeps the laws of a braking model, by formulas that hold as they stand.
use Rattle.std.proofs.Common.{ℕ, ◌≤◌}
use Rattle.units.specs.declared.limits.TheConstants.{MAX_SPEED}
use Rattle.braking.specs.Meaning.{Question, Asked, Binds}
use Rattle.braking.specs.Laws.{Lawful}
use Rattle.stopping.specs.Meanings.{meaning_by}
use Rattle.stopping.specs.Stops.{Stop, Limited, Near}
use Rattle.stopping.specs.Laws.{LawfulStop, StopsUncut}
use Rattle.stopping.proofs.Margin.{lawful, uncut}

module _ (top : ℕ) (stop : Question → Stop) (slow : top ≤ MAX_SPEED.tenths)
    (limited : (q : Question) → Asked top q → Binds (meaning_by top stop) q → Limited (stop q))
    (near : (q : Question) → Asked top q → Binds (meaning_by top stop) q → Near (stop q).braking (stop q).rounded) where
  stop_lawful : (q : Question) → Asked top q → Binds (meaning_by top stop) q → LawfulStop (stop q)
  stop_lawful q asked binds = lawful (stop q) (limited q asked binds) (near q asked binds)

  pub lawful_by : Lawful (meaning_by top stop)
  lawful_by = record {
    top_bounded = slow;
    weak_below = λ q asked binds. (stop_lawful q asked binds).weak_below;
    strong_above = λ q asked binds. (stop_lawful q asked binds).strong_above;
    sound = λ q asked binds. (stop_lawful q asked binds).sound;
  }

  pub uncut_by : StopsUncut top stop
  uncut_by q asked binds = uncut (stop q) (limited q asked binds) (near q asked binds)
