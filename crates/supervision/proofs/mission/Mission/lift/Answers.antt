use Rattle.std.proofs.Common.{refl}
use Rattle.std.proofs.lemmas.Result.{err_from_is_err_and}
use Rattle.calls.specs.declared.call.Call.TheVariants.{Lift}
use Rattle.supervision.proofs.Promises.{carried_out, law_of, obstructed, out_of_limits, same_state}
use Rattle.supervision.proofs.mission.Mission.lift.Goals as goal

pub returns-in_err-check_place : goal.returns-in_err-check_place
returns-in_err-check_place g c =
    let p = err_from_is_err_and c.from_residual.result c.from_residual.ensures.1 in
    let w = out_of_limits g.M.BrakingModel.meaning (Lift c.args.place) c.args.self.now c.args.lists.now c.in_err-check_place.field-0.0 (c.in_err-check_place.ensures) in
    rw (p.1, p.2) (record { made = w; phase = tt; sections = refl; targets = refl; law = law_of g.M.BrakingModel.meaning g.met.M.BrakingModel.lawful w })

pub returns-in_err-take_ceiling : goal.returns-in_err-take_ceiling
returns-in_err-take_ceiling g c =
    let p = err_from_is_err_and c.from_residual-in_err-take_ceiling.result c.from_residual-in_err-take_ceiling.ensures.1 in
    let d = c.in_err-take_ceiling.ensures.changes in
    let w = obstructed g.M.BrakingModel.meaning (Lift c.args.place) c.args.self.now c.args.lists.now (c.in_ok-check_place.ensures) c.take_ceiling.new.self d.2 c.in_err-take_ceiling.field-0.0 d.0 d.1 in
    rw (p.1, p.2) (record { made = w; phase = tt; sections = c.take_ceiling.ensures.sections; targets = c.take_ceiling.ensures.targets; law = law_of g.M.BrakingModel.meaning g.met.M.BrakingModel.lawful w })

pub returns : goal.returns
returns g c =
    let d = c.in_ok-take_ceiling.ensures.changes in
    let w = carried_out g.M.BrakingModel.meaning (Lift c.args.place) c.args.self.now c.args.lists.now (c.in_ok-check_place.ensures) c.take_ceiling.new.self d.2 c.accept.new.self d.0 refl
    (same_state d.1 c.accept.ensures.phase c.accept.ensures.clear) c.accept.ensures.train in
    record { made = w; phase = c.accept.ensures.value; sections = c.take_ceiling.ensures.sections; targets = c.take_ceiling.ensures.targets; law = law_of g.M.BrakingModel.meaning g.met.M.BrakingModel.lawful w }
