use Rattle.std.proofs.Common.{refl, ap, ◌∙◌, Some, Ok}
use Rattle.std.proofs.lemmas.Result.{err_from_is_err_and}
use Rattle.calls.specs.declared.call.Call.TheVariants.{Sample}
use Rattle.calls.specs.declared.zone.Zone.{Zone}
use Rattle.history.specs.Step.{next_phase}
use Rattle.history.specs.Zones.{is_clear, zone}
use Rattle.sheet.specs.declared.values.Values.{Values}
use Rattle.supervision.specs.Lists.{track_of}
use Rattle.supervision.proofs.Promises.{accepted, kept, law_of, same_state, turned_down}
use Rattle.supervision.proofs.mission.Mission.sample.Goals as goal

pub returns-in_err-check_sample : goal.returns-in_err-check_sample
returns-in_err-check_sample g c =
    let p = err_from_is_err_and c.from_residual.result c.from_residual.ensures.1 in
    let w = turned_down g.M.BrakingModel.meaning (Sample c.args.place c.args.speed) c.args.self.now c.args.lists.now c.in_err-check_sample.field-0.0
    (c.in_err-check_sample.ensures (g.M.BrakingModel.meaning c.args.self.now.model)) in
    rw (p.1, p.2) (record { made = w; phase = tt; law = law_of g.M.BrakingModel.meaning g.met.M.BrakingModel.lawful w })

pub returns : goal.returns
returns g c =
    let z = c.sample_zone-zone.ensures ∙ ap (λ (s : Values). zone s (g.M.BrakingModel.meaning c.args.self.now.model) (track_of c.args.lists.now) c.args.place.millimetres c.args.speed.tenths) c.values.ensures.same in
    let w = accepted g.M.BrakingModel.meaning (Sample c.args.place c.args.speed) c.args.self.now c.args.lists.now c.args.lists.now (kept c.args.lists.now) c.enter.new.self (Ok (Some c.sample_zone-zone.result))
    (c.in_ok-check_sample.ensures (g.M.BrakingModel.meaning c.args.self.now.model)) (ap (λ (x : Zone). Ok (Some x)) z)
    (same_state refl (c.enter.ensures.phase ∙ ap (next_phase c.args.self.now.phase) z) (c.enter.ensures.clear ∙ ap is_clear z)) c.enter.ensures.train in
    record { made = w; phase = refl; law = law_of g.M.BrakingModel.meaning g.met.M.BrakingModel.lawful w }
