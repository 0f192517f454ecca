use Rattle.std.proofs.Common.{[], ◌∷◌}
use Rattle.std.proofs.lemmas.Result.{err_from_is_err_and}
use Rattle.history.specs.Step.{too_far, too_fast}
use Rattle.supervision.proofs.Promises.{first_behind, first_here}
use Rattle.supervision.proofs.limits.check_ceiling.Goals as goal

pub returns-in_err-check_place : goal.returns-in_err-check_place
returns-in_err-check_place c =
    let p = err_from_is_err_and c.from_residual.result c.from_residual.ensures.1 in
    rw (p.1, p.2) (λ m top. first_here _ (too_far c.args.place.millimetres ∷ []) (too_fast m.top c.args.speed.tenths ∷ []) c.in_err-check_place.ensures)

pub returns : goal.returns
returns c = λ m top. rw top (first_behind _ (too_far c.args.place.millimetres ∷ []) (too_fast c.args.top.speed.tenths c.args.speed.tenths ∷ []) c.in_ok-check_place.ensures c.check_speed.ensures)
