use Rattle.std.proofs.Common.{ℕ, ◌-◌, ◌*◌, cond, ltb, subst}
use Rattle.units.specs.Fractions.{whole, ratio}
use Rattle.models.specs.Formulas.{fading_factor, factors}
use Rattle.models.specs.Scaling.{HasValue}
use Rattle.models.specs.Vl.{vl}
use Rattle.models.proofs.Chains.{scaled_is}
use Rattle.models.proofs.scmt.ScmtRulesRules.brake_deceleration.Goals as goal

pub returns : goal.returns
unfolding factors
returns c =
    let lambda : ℕ = c.args.sheet.now.values.lambda in
    let V : ℕ = c.args.approach.speed in
    let fades : HasValue (cond (ltb (vl lambda) V) (fading_factor lambda V) (whole 1)) c.fading_factor.result =
    subst (λ (n : ℕ). HasValue (cond (ltb n V) (ratio (100000 - 21 * (V - n)) 100000) (whole 1)) c.fading_factor.result) c.fading_speed.ensures.value c.fading_factor.ensures in
    let by-fading = scaled_is _ _ _ _ _ fades c.base_deceleration-base.ensures.value c.scale-by_fading.ensures.value in
    let by-kr = scaled_is _ _ _ _ _ c.kr_factor.ensures by-fading c.scale-by_kr.ensures.value in
    let by-high-speed = scaled_is _ _ _ _ _ c.high_speed_factor.ensures by-kr c.scale-by_high_speed.ensures.value in
    let by-very-high-speed = scaled_is _ _ _ _ _ c.very_high_speed_factor.ensures by-high-speed c.scale-by_very_high_speed.ensures.value in
    scaled_is _ _ _ _ _ c.target_factor.ensures by-very-high-speed c.scale.ensures.value
