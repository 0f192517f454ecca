use Rattle.std.proofs.Common.{rules}
use Rattle.std.proofs.lemmas.Result.{err_from_is_err_and}
use Rattle.sheet_text.proofs.Described.{stops, stands as stands_in}
use Rattle.sheet_text.proofs.Fronts.{fronts, stop_from, stands_from, sheet_made, made_of}
use Rattle.sheet_text.proofs.reading.read_values.Goals as goal

pub returns-in_err-list-clause-answers : goal.returns-in_err-list-clause-answers
returns-in_err-list-clause-answers c =
    let p = err_from_is_err_and c.from_residual.result c.from_residual.ensures.1 in
    rw (p.1, p.2) (stop_from c.args.rest.now.text.now c.args.rest.now.at c.in_err-list.field-0.0 (stops c.description.result (record { rows = c.description.ensures.rows; layout = c.description.ensures.layout; number = c.description.ensures.number }) c.args.rest.now.text.now c.args.rest.now.at c.read.new.rest.at c.in_err-list.field-0.0 c.in_err-list.ensures.answers) c.requires)

pub unwrap-requires : goal.unwrap-requires
unwrap-requires c =
    let stands = stands_from c.args.rest.now.text.now c.args.rest.now.at c.read.new.rest.at c.in_ok-list.list (stands_in c.description.result (record { rows = c.description.ensures.rows; layout = c.description.ensures.layout; number = c.description.ensures.number }) c.args.rest.now.text.now c.args.rest.now.at c.read.new.rest.at c.in_ok-list.list c.in_ok-list.ensures.answers) (search rules) c.requires in
    sheet_made c.in_ok-list.list c.from_list.result c.from_list.ensures.made stands.fit

pub returns-clause-answers : goal.returns-clause-answers
returns-clause-answers c =
    let stands = stands_from c.args.rest.now.text.now c.args.rest.now.at c.read.new.rest.at c.in_ok-list.list (stands_in c.description.result (record { rows = c.description.ensures.rows; layout = c.description.ensures.layout; number = c.description.ensures.number }) c.args.rest.now.text.now c.args.rest.now.at c.read.new.rest.at c.in_ok-list.list c.in_ok-list.ensures.answers) (search rules) c.requires in
    fronts c.args.rest.now.text.now c.in_ok-list.list c.unwrap.result c.read.new.rest.at stands (made_of c.in_ok-list.list c.from_list.result c.unwrap.result c.from_list.ensures.made c.unwrap.ensures)
