use Rattle.std.proofs.Common.{refl, None, Ok}
use Rattle.std.proofs.lemmas.Result.{err_from_is_err_and}
use Rattle.calls.specs.declared.call.Call.TheVariants.{Withdraw}
use Rattle.supervision.proofs.Promises.{accepted, law_of, refused, same_state}
use Rattle.supervision.proofs.mission.Mission.withdraw.Goals as goal

pub returns-in_err-take_target : goal.returns-in_err-take_target
returns-in_err-take_target g c =
    let p = err_from_is_err_and c.from_residual.result c.from_residual.ensures.1 in
    let d = c.in_err-take_target.ensures.changes in
    let w = refused g.M.BrakingModel.meaning (Withdraw c.args.number) c.args.self.now c.args.lists.now c.take_target.new.self d.2 c.in_err-take_target.field-0.0 d.0 d.1 in
    rw (p.1, p.2) (record { made = w; phase = tt; sections = c.take_target.ensures.sections; ceilings = c.take_target.ensures.ceilings; law = law_of g.M.BrakingModel.meaning g.met.M.BrakingModel.lawful w })

pub returns : goal.returns
returns g c =
    let d = c.in_ok-take_target.ensures.changes in
    let w = accepted g.M.BrakingModel.meaning (Withdraw c.args.number) c.args.self.now c.args.lists.now c.take_target.new.self d.2 c.accept.new.self (Ok None)
    d.0 refl (same_state d.1 c.accept.ensures.phase c.accept.ensures.clear) c.accept.ensures.train in
    record { made = w; phase = c.accept.ensures.value; sections = c.take_target.ensures.sections; ceilings = c.take_target.ensures.ceilings; law = law_of g.M.BrakingModel.meaning g.met.M.BrakingModel.lawful w }
