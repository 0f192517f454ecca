use Rattle.std.proofs.Common.{sym, ◌∙◌}
use Rattle.units.specs.Fractions.{ratio}
use Rattle.models.specs.Formulas.{base_deceleration, factors, target_factor}
use Rattle.models.proofs.Chains.{scaled_is, two_of_five}
use Rattle.models.proofs.etcs.EtcsRulesRules.brake_deceleration.Goals as goal

pub returns : goal.returns
unfolding factors
returns c =
    let approach = c.args.approach in
    let by-kr = scaled_is _ _ _ _ _ c.kr_factor.ensures c.base_deceleration-base.ensures.value c.scale-by_kr.ensures.value in
    let reduced = scaled_is _ _ _ _ _ c.target_factor.ensures by-kr c.scale.ensures.value in
    reduced ∙ sym (two_of_five (base_deceleration c.args.sheet.now.values.lambda) (ratio c.args.sheet.now.values.kr 100) (target_factor approach.speed approach.target_speed))
