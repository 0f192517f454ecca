use Rattle.std.proofs.Common.{◌≡◌, ◌∙◌, ◌+◌, ◌<◌, [], ◌∷◌, ◌++◌, arith, get_or, length, pos, set, take}
use Rattle.std.proofs.lemmas.List.{drop-set-lt, take_more, take_more_set}
use Rattle.calls.specs.declared.call.Call.{Call}
use Rattle.calls.specs.declared.call.Call.TheVariants.{Slope}
use Rattle.supervision.proofs.Follows.{follow_more}
use Rattle.supervision.proofs.running.make_calls.Goals as goal

pub loop-i-preserved : goal.loop-i-preserved
loop-i-preserved g c =
    let call : Call = get_or c.args.calls.now c.loop-i.i (Slope (record { millimetres = 0 }) (record { thousandths = pos 0 })) in
    let calls : take (c.loop-i.i + 1) c.args.calls.now ≡ take c.loop-i.i c.args.calls.now ++ get_or c.args.calls.now c.loop-i.i (Slope (record { millimetres = 0 }) (record { thousandths = pos 0 })) ∷ [] =
    take_more c.args.calls.now c.loop-i.i _ (omega arith) in
    let room : c.loop-i.i < length c.loop-i.records = omega arith in
    let records : take (c.loop-i.i + 1) (set c.loop-i.records c.loop-i.i c.apply.result) ≡ take c.loop-i.i c.loop-i.records ++ c.apply.result ∷ [] = take_more_set c.loop-i.records c.loop-i.i c.apply.result room in
    let next = follow_more g.M.BrakingModel.meaning c.args.mission.now c.loop-i.mission c.apply.new.self c.args.lists.now c.loop-i.lists c.apply.new.lists
    (take c.loop-i.i c.args.calls.now) (take c.loop-i.i c.loop-i.records) call c.apply.result c.loop-i.invariant.followed c.apply.ensures.call c.apply.ensures.phase c.apply.ensures.made in
    record {
      followed = rw (calls, records) next;
      rest = λ n l. drop-set-lt n c.loop-i.records c.loop-i.i c.apply.result (omega arith) ∙ c.loop-i.invariant.rest n (omega arith);
    }
