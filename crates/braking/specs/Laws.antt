-- The laws that every braking model owes.
use Rattle.std.specs.Prelude.{◌≡◌, ℕ, ◌*◌, ◌≤◌, pos, ◌≤ℤ◌, ◌<ℤ◌}
use Rattle.units.specs.declared.limits.TheConstants.{MAX_SPEED}
use Rattle.units.specs.Fractions.{Fraction, whole, ◌≼◌, ◌⊕◌, ◌⊗◌}
use Rattle.braking.specs.Meaning.{Meaning, Question, Verdict, Asked, Binds, weak, strong}

-- c mm are at least the exact distance e, and at most the sum of e, the slack and a fifty-thousandth of c.
pub record Within (slack e : Fraction) (c : ℕ) : Type 0 where
  pub at_least : e ≼ whole c
  pub at_most : whole (49999 * c) ≼ whole 50000 ⊗ (e ⊕ slack)

-- The slack of a computed distance is 90 mm.
abbrev pub Close : Fraction → ℕ → Type 0
Close e c = Within (whole 90) e c

abbrev pub Strong : Verdict → Type 0
Strong weak = ⊥
Strong (strong e c) = Unit {0}

-- Where there are distances, each computed one is close to its exact one.
abbrev pub Sound : Verdict → Type 0
Sound weak = Unit {0}
Sound (strong e c) = Close e.control c.control × Close e.warning c.warning × Close e.nominal c.nominal

pub record Lawful (m : Meaning) : Type 0 where
  pub top_bounded : m.top ≤ MAX_SPEED.tenths
  pub weak_below : (q : Question) → Asked m.top q → Binds m q → (m.deceleration q).numerator <ℤ pos (500000 * (m.deceleration q).denominator) → m.verdict q ≡ weak
  pub strong_above : (q : Question) → Asked m.top q → Binds m q → pos (500009 * (m.deceleration q).denominator) ≤ℤ (m.deceleration q).numerator → Strong (m.verdict q)
  pub sound : (q : Question) → Asked m.top q → Binds m q → Sound (m.verdict q)
