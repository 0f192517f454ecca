use Rattle.std.proofs.Common.{◌≤◌, length, rules, subst}
use Rattle.std.proofs.lemmas.List.{take_all}
use Rattle.history.specs.Lines.{GivesOneCeilingAtMost, GivesOneGrade}
use Rattle.maker_run.proofs.driving.drive.Goals as goal

pub returns-clause-grades : goal.returns-clause-grades
returns-clause-grades g c =
    let all : length c.run.new.records ≤ c.run.result.calls_made = search rules in
    subst (GivesOneGrade c.args.sheet.values) (take_all c.run.result.calls_made c.run.new.records all) c.run.ensures.grades

pub returns-clause-ceilings : goal.returns-clause-ceilings
returns-clause-ceilings g c =
    let all : length c.run.new.records ≤ c.run.result.calls_made = search rules in
    subst GivesOneCeilingAtMost (take_all c.run.result.calls_made c.run.new.records all) c.run.ensures.ceilings
