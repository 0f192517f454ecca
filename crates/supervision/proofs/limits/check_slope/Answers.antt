use Rattle.std.proofs.Common.{[], ◌∷◌}
use Rattle.std.proofs.lemmas.Result.{err_from_is_err_and}
use Rattle.calls.specs.declared.refusal.Refusal.TheVariants.{GradeOutOfLimits}
use Rattle.history.specs.State.{is_unfit}
use Rattle.history.specs.Step.{ground_for, too_far}
use Rattle.supervision.proofs.Promises.{first_here}
use Rattle.supervision.proofs.limits.check_slope.Goals as goal

pub returns-in_err-check_place : goal.returns-in_err-check_place
returns-in_err-check_place c =
    let p = err_from_is_err_and c.from_residual.result c.from_residual.ensures.1 in
    rw (p.1, p.2) (λ m. first_here _ (too_far c.args.place.millimetres ∷ []) (ground_for (is_unfit c.args.grade.thousandths) GradeOutOfLimits ∷ []) c.in_err-check_place.ensures)
