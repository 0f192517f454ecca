use Rattle.std.proofs.Common.{List, None, sym, ap, ◌∙◌}
use Rattle.descriptions.specs.Fitting.{all_fit}
use Rattle.descriptions.specs.Rows.{PlainRow}
use Rattle.sheet.proofs.OneList.{back}
use Rattle.sheet.proofs.values.Values.from_list.Goals as goal

pub returns-else-all_fit-clause-back : goal.returns-else-all_fit-clause-back
returns-else-all_fit-clause-back c =
    let list = c.args.list.now in
    back list None (sym (c.all_fit.ensures ∙ ap (λ (rows : List PlainRow). all_fit rows list) c.lines.ensures) ∙ c.if-all_fit.false)
