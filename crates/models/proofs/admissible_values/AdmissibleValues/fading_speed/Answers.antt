use Rattle.std.proofs.Common.{◌≡◌, ℕ, sym, subst}
use Rattle.sheet.proofs.Limits.{limits}
use Rattle.models.specs.Vl.{Greatest, vl}
use Rattle.models.proofs.FadingSpeeds.{greatest}
use Rattle.models.proofs.admissible_values.AdmissibleValues.fading_speed.Goals as goal

pub returns : goal.returns
unfolding vl
returns c =
    let values = c.args.self.now.values in
    let within = limits values c.args.self.now.valid in
    let value : c.fading_speed_at.result.tenths ≡ vl values.lambda = c.fading_speed_at.ensures in
    record {
      value = value;
      rule = subst (λ (n : ℕ). Greatest values.lambda n) (sym value) (greatest values.lambda within.lambda_least within.lambda_most within.lambda_fives);
    }
