use Rattle.std.proofs.Common.{refl, sym}
use Rattle.std.proofs.lemmas.Result.{err_from_is_err_and}
use Rattle.calls.specs.declared.call.Call.TheVariants.{Ceiling}
use Rattle.supervision.proofs.Promises.{carried_out, law_of, obstructed, out_of_limits, same_state}
use Rattle.supervision.proofs.mission.Mission.ceiling.Goals as goal

pub returns-in_err-check_ceiling : goal.returns-in_err-check_ceiling
returns-in_err-check_ceiling g c =
    let p = err_from_is_err_and c.from_residual.result c.from_residual.ensures.1 in
    let w = out_of_limits g.M.BrakingModel.meaning (Ceiling c.args.place c.args.speed) c.args.self.now c.args.lists.now c.in_err-check_ceiling.field-0.0 (c.in_err-check_ceiling.ensures (g.M.BrakingModel.meaning c.args.self.now.model) (sym c.top_speed.ensures)) in
    rw (p.1, p.2) (record { made = w; phase = tt; sections = refl; targets = refl; law = law_of g.M.BrakingModel.meaning g.met.M.BrakingModel.lawful w })

pub returns-in_err-add_ceiling : goal.returns-in_err-add_ceiling
returns-in_err-add_ceiling g c =
    let p = err_from_is_err_and c.from_residual-in_err-add_ceiling.result c.from_residual-in_err-add_ceiling.ensures.1 in
    let d = c.in_err-add_ceiling.ensures.changes in
    let w = obstructed g.M.BrakingModel.meaning (Ceiling c.args.place c.args.speed) c.args.self.now c.args.lists.now (c.in_ok-check_ceiling.ensures (g.M.BrakingModel.meaning c.args.self.now.model) (sym c.top_speed.ensures)) c.add_ceiling.new.self d.2 c.in_err-add_ceiling.field-0.0 d.0 d.1 in
    rw (p.1, p.2) (record { made = w; phase = tt; sections = c.add_ceiling.ensures.sections; targets = c.add_ceiling.ensures.targets; law = law_of g.M.BrakingModel.meaning g.met.M.BrakingModel.lawful w })

pub returns : goal.returns
returns g c =
    let d = c.in_ok-add_ceiling.ensures.changes in
    let w = carried_out g.M.BrakingModel.meaning (Ceiling c.args.place c.args.speed) c.args.self.now c.args.lists.now (c.in_ok-check_ceiling.ensures (g.M.BrakingModel.meaning c.args.self.now.model) (sym c.top_speed.ensures)) c.add_ceiling.new.self d.2 c.accept.new.self d.0 refl
    (same_state d.1 c.accept.ensures.phase c.accept.ensures.clear) c.accept.ensures.train in
    record { made = w; phase = c.accept.ensures.value; sections = c.add_ceiling.ensures.sections; targets = c.add_ceiling.ensures.targets; law = law_of g.M.BrakingModel.meaning g.met.M.BrakingModel.lawful w }
