use Rattle.std.proofs.Common.{refl}
use Rattle.std.proofs.lemmas.Result.{err_from_is_err_and}
use Rattle.calls.specs.declared.call.Call.TheVariants.{Slope}
use Rattle.supervision.proofs.Promises.{carried_out, fit_slope, law_of, obstructed, out_of_limits, same_state}
use Rattle.supervision.proofs.mission.Mission.slope.Goals as goal

pub returns-in_err-check_slope : goal.returns-in_err-check_slope
returns-in_err-check_slope g c =
    let p = err_from_is_err_and c.from_residual.result c.from_residual.ensures.1 in
    let w = out_of_limits g.M.BrakingModel.meaning (Slope c.args.place c.args.grade) c.args.self.now c.args.lists.now c.in_err-check_slope.field-0.0 (c.in_err-check_slope.ensures (g.M.BrakingModel.meaning c.args.self.now.model)) in
    rw (p.1, p.2) (record { made = w; phase = tt; targets = refl; ceilings = refl; law = law_of g.M.BrakingModel.meaning g.met.M.BrakingModel.lawful w })

pub add_section-requires : goal.add_section-requires
add_section-requires g c = fit_slope (g.M.BrakingModel.meaning c.args.self.now.model) c.args.place c.args.grade (c.in_ok-check_slope.ensures (g.M.BrakingModel.meaning c.args.self.now.model))

pub returns-in_err-add_section : goal.returns-in_err-add_section
returns-in_err-add_section g c =
    let p = err_from_is_err_and c.from_residual-in_err-add_section.result c.from_residual-in_err-add_section.ensures.1 in
    let d = c.in_err-add_section.ensures.changes in
    let w = obstructed g.M.BrakingModel.meaning (Slope c.args.place c.args.grade) c.args.self.now c.args.lists.now (c.in_ok-check_slope.ensures (g.M.BrakingModel.meaning c.args.self.now.model)) c.add_section.new.self d.2 c.in_err-add_section.field-0.0 d.0 d.1 in
    rw (p.1, p.2) (record { made = w; phase = tt; targets = c.add_section.ensures.targets; ceilings = c.add_section.ensures.ceilings; law = law_of g.M.BrakingModel.meaning g.met.M.BrakingModel.lawful w })

pub returns : goal.returns
returns g c =
    let d = c.in_ok-add_section.ensures.changes in
    let w = carried_out g.M.BrakingModel.meaning (Slope c.args.place c.args.grade) c.args.self.now c.args.lists.now (c.in_ok-check_slope.ensures (g.M.BrakingModel.meaning c.args.self.now.model)) c.add_section.new.self d.2 c.accept.new.self d.0 refl
    (same_state d.1 c.accept.ensures.phase c.accept.ensures.clear) c.accept.ensures.train in
    record { made = w; phase = c.accept.ensures.value; targets = c.add_section.ensures.targets; ceilings = c.add_section.ensures.ceilings; law = law_of g.M.BrakingModel.meaning g.met.M.BrakingModel.lawful w }
