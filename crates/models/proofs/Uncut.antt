-- The formulas of a model hold as they stand, with nothing cut off.
use Rattle.std.proofs.Common.{◌≡◌, ◌≤◌, true, le_trans, arith}
use Rattle.std.proofs.lemmas.Bool.{ltb-true}
use Rattle.sheet.proofs.Limits.{limits}
use Rattle.sheet.specs.Ranges.{admissible}
use Rattle.sheet.specs.declared.words.Model.{Model}
use Rattle.sheet.specs.declared.words.Model.TheVariants.{Scmt, Etcs}
use Rattle.sheet.specs.declared.values.Values.{Values}
use Rattle.models.specs.Formulas.{counted_ep}
use Rattle.models.specs.Lawfulness.{top_bounded, stops_uncut}
use Rattle.models.specs.Laws.{NeverCut}
use Rattle.models.specs.Vl.{vl}

ep_small : (m : Model) (v : Values) → v.ep ≤ 1 → counted_ep m v ≤ 1
ep_small Scmt v h = omega arith
ep_small Etcs v h = h

pub never_cut : (m : Model) (v : Values) → admissible v ≡ true → NeverCut m v
never_cut m v valid q asked binds =
    let slow = le_trans asked.slow (top_bounded m v.regime) in
    let lower = ltb-true q.target_speed q.speed binds in
    (stops_uncut m v valid q asked binds, record { table = (limits v valid).lambda_least; above_vl = λ h. let above = ltb-true (vl v.lambda) q.speed h in omega arith; fading = omega arith; target = omega arith; target_above = omega arith; ep = ep_small m v (limits v valid).ep })
