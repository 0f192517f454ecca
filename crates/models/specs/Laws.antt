-- What every model keeps, over every admissible sheet.
use Rattle.std.specs.Prelude.{◌≡◌, ℕ, ◌-◌, ◌*◌, ◌<◌, ◌≤◌, true, nat_lt}
use Rattle.braking.specs.Laws.{Lawful}
use Rattle.braking.specs.Meaning.{Question, Asked, Binds}
use Rattle.sheet.specs.Ranges.{admissible}
use Rattle.sheet.specs.declared.words.Model.{Model}
use Rattle.sheet.specs.declared.values.Values.{Values}
use Rattle.stopping.specs.Laws.{Uncut}
use Rattle.models.specs.Formulas.{top, counted_ep}
use Rattle.models.specs.Meanings.{stop_for, meaning_of}
use Rattle.models.specs.Vl.{vl}

abbrev pub KeepsTheLaws : Model → Type 0
KeepsTheLaws m = (v : Values) → admissible v ≡ true → Lawful (meaning_of m v)

abbrev pub SheetModelKeepsTheLaws : Type 0
SheetModelKeepsTheLaws = (v : Values) → admissible v ≡ true → Lawful (meaning_of v.model v)

-- In the formulas of the deceleration and the reaction time no difference is cut off at 0, and nothing is divided by 0.
pub record UncutFactors (m : Model) (v : Values) (V V0 : ℕ) : Type 0 where
  -- the place in the table of VL
  pub table : 45 ≤ v.lambda
  -- the fading factor holds only above VL
  pub above_vl : nat_lt (vl v.lambda) V ≡ true → vl v.lambda ≤ V
  pub fading : 21 * (V - vl v.lambda) ≤ 100000
  pub target : 5 * V0 ≤ 100 * V
  pub target_above : 0 < 100 * V
  pub ep : counted_ep m v ≤ 1

-- Nor in any other formula of a question that can be asked and binds.
abbrev pub NeverCut : Model → Values → Type 0
NeverCut m v = (q : Question) → Asked (top m v.regime) q → Binds (meaning_of m v) q → Uncut (stop_for m v q) × UncutFactors m v q.speed q.target_speed
