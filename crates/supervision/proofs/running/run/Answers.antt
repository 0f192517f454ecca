use Rattle.std.proofs.Common.{◌≡◌, ◌∙◌, ap, map, subst, sym, take}
use Rattle.calls.specs.declared.record.Record.{Record}
use Rattle.history.specs.History.{History}
use Rattle.history.specs.Lines.{GivesOneCeilingAtMost, GivesOneGrade, KeepsTheLines}
use Rattle.history.specs.Runs.{run}
use Rattle.history.specs.State.{empty_track, start}
use Rattle.history.proofs.Runs.{every_run, one_grade, one_ceiling}
use Rattle.sheet.specs.declared.admitted.Admitted.{Admitted}
use Rattle.supervision.specs.Lists.{capacity_of, opened_track}
use Rattle.supervision.proofs.Follows.{opened_run, run_calls}
use Rattle.supervision.proofs.running.run.Goals as goal

pub returns : goal.returns
returns g c =
    let sheet = c.args.sheet.values in
    let m = g.M.BrakingModel.meaning c.args.model in
    let capacity = capacity_of c.args.memory in
    let made = c.make_calls-calls_made.result in
    let o = c.open-mission.ensures in
    let same = opened_run g.M.BrakingModel.meaning c.open-mission.result.0 c.args.sheet c.args.model c.open-mission.result.1 capacity (take c.make_calls-calls_made.result c.args.calls.now) o.sheet o.model o.phase o.clear o.empty in
    let history : take c.make_calls-calls_made.result c.make_calls-calls_made.new.records
    ≡ run c.args.sheet.values (g.M.BrakingModel.meaning c.args.model) (start (opened_track c.args.memory)) (take c.make_calls-calls_made.result c.args.calls.now) =
    c.make_calls-calls_made.ensures.history ∙ same in
    record {
      calls_made = c.make_calls-calls_made.ensures.calls_made;
      calls = ap (map (λ (x : Record). x.call)) history ∙ run_calls sheet m (start (empty_track capacity)) (take made c.args.calls.now);
      history = history;
      lines = subst (λ (h : History). KeepsTheLines c.args.sheet.values (g.M.BrakingModel.meaning c.args.model) h) (sym history) (every_run sheet m (g.met.M.BrakingModel.lawful c.args.model) capacity (take made c.args.calls.now));
      grades = subst (GivesOneGrade c.args.sheet.values) (sym history) (one_grade sheet m capacity (take made c.args.calls.now));
      ceilings = subst GivesOneCeilingAtMost (sym history) (one_ceiling sheet m capacity (take made c.args.calls.now));
      rest = c.make_calls-calls_made.ensures.rest;
      draft = c.close.ensures ∙ ap (λ (s : Admitted). s.values) (c.make_calls-calls_made.ensures.train.sheet ∙ o.sheet);
    }
