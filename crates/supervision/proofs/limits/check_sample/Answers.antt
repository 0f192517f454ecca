use Rattle.std.proofs.Common.{[], ◌∷◌}
use Rattle.std.proofs.lemmas.Result.{err_from_is_err_and}
use Rattle.history.specs.Step.{max_speed, too_far, too_fast}
use Rattle.supervision.proofs.Promises.{first_behind, first_here}
use Rattle.supervision.proofs.limits.check_sample.Goals as goal

pub returns-in_err-check_place : goal.returns-in_err-check_place
returns-in_err-check_place c =
    let p = err_from_is_err_and c.from_residual.result c.from_residual.ensures.1 in
    rw (p.1, p.2) (λ m. first_here _ (too_far c.args.place.millimetres ∷ []) (too_fast max_speed c.args.speed.tenths ∷ []) c.in_err-check_place.ensures)

pub returns : goal.returns
returns c = λ m. first_behind _ (too_far c.args.place.millimetres ∷ []) (too_fast max_speed c.args.speed.tenths ∷ []) c.in_ok-check_place.ensures c.check_speed.ensures
