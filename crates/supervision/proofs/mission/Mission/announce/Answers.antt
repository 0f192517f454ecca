use Rattle.std.proofs.Common.{refl, ◌∙◌, ℕ, ap}
use Rattle.std.proofs.lemmas.Result.{err_from_is_err_and}
use Rattle.calls.specs.declared.call.Call.TheVariants.{Announce}
use Rattle.history.specs.Step.{with_target}
use Rattle.supervision.specs.Lists.{track_of}
use Rattle.supervision.proofs.Promises.{carried_out, law_of, obstructed, out_of_limits, same_state}
use Rattle.supervision.proofs.mission.Mission.announce.Goals as goal

pub returns-in_err-place : goal.returns-in_err-place
returns-in_err-place g c =
    let p = err_from_is_err_and c.from_residual.result c.from_residual.ensures.1 in
    let w = out_of_limits g.M.BrakingModel.meaning (Announce c.args.number c.args.point c.args.distance c.args.speed) c.args.self.now c.args.lists.now c.in_err-place.field-0.0 (c.in_err-place.ensures c.args.number) in
    rw (p.1, p.2) (record { made = w; phase = tt; sections = refl; ceilings = refl; law = law_of g.M.BrakingModel.meaning g.met.M.BrakingModel.lawful w })

pub returns-in_err-add_target : goal.returns-in_err-add_target
returns-in_err-add_target g c =
    let p = err_from_is_err_and c.from_residual-in_err-add_target.result c.from_residual-in_err-add_target.ensures.1 in
    let d = c.in_err-add_target.ensures.changes in
    let w = obstructed g.M.BrakingModel.meaning (Announce c.args.number c.args.point c.args.distance c.args.speed) c.args.self.now c.args.lists.now (c.in_ok-place.ensures.0 c.args.number) c.add_target.new.self d.2 c.in_err-add_target.field-0.0 d.0 d.1 in
    rw (p.1, p.2) (record { made = w; phase = tt; sections = c.add_target.ensures.sections; ceilings = c.add_target.ensures.ceilings; law = law_of g.M.BrakingModel.meaning g.met.M.BrakingModel.lawful w })

pub returns : goal.returns
returns g c =
    let d = c.in_ok-add_target.ensures.changes in
    let w = carried_out g.M.BrakingModel.meaning (Announce c.args.number c.args.point c.args.distance c.args.speed) c.args.self.now c.args.lists.now (c.in_ok-place.ensures.0 c.args.number) c.add_target.new.self d.2 c.accept.new.self d.0 refl
    (same_state (d.1 ∙ ap (λ (p : ℕ). with_target (record { number = c.args.number; place = p; speed = c.args.speed.tenths }) (track_of c.args.lists.now)) c.in_ok-place.ensures.1) c.accept.ensures.phase c.accept.ensures.clear) c.accept.ensures.train in
    record { made = w; phase = c.accept.ensures.value; sections = c.add_target.ensures.sections; ceilings = c.add_target.ensures.ceilings; law = law_of g.M.BrakingModel.meaning g.met.M.BrakingModel.lawful w }
