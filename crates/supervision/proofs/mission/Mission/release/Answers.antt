use Rattle.std.proofs.Common.{sym, refl, None, Ok}
use Rattle.calls.specs.declared.call.Call.TheVariants.{Release}
use Rattle.calls.specs.declared.refusal.Refusal.TheVariants.{NotReleasable}
use Rattle.supervision.proofs.Promises.{accepted, kept, law_of, let_go, not_let_go, same_state, turned_down}
use Rattle.supervision.proofs.mission.Mission.release.Goals as goal

pub returns-then-not-is_releasable : goal.returns-then-not-is_releasable
returns-then-not-is_releasable g c =
    let w = turned_down g.M.BrakingModel.meaning Release c.args.self.now c.args.lists.now NotReleasable (not_let_go c.args.self.now.phase c.args.self.now.clear (sym c.if-not-is_releasable.ensures)) in
    record { made = w; phase = tt; law = law_of g.M.BrakingModel.meaning g.met.M.BrakingModel.lawful w }

pub returns : goal.returns
returns g c =
    let w = accepted g.M.BrakingModel.meaning Release c.args.self.now c.args.lists.now c.args.lists.now (kept c.args.lists.now) c.accept.new.self (Ok None)
    (let_go c.args.self.now.phase c.args.self.now.clear (sym c.if-not-is_releasable.ensures)) refl (same_state refl c.accept.ensures.phase c.accept.ensures.clear)
    (record { sheet = c.accept.ensures.train.sheet; model = c.accept.ensures.train.model }) in
    record { made = w; phase = c.accept.ensures.value; law = law_of g.M.BrakingModel.meaning g.met.M.BrakingModel.lawful w }
