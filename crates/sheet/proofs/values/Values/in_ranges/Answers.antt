use Rattle.std.proofs.Common.{List, ap, ◌∙◌}
use Rattle.descriptions.specs.Fitting.{all_fit}
use Rattle.descriptions.specs.Rows.{PlainRow}
use Rattle.sheet.specs.Ranges.{in_ranges}
use Rattle.sheet.specs.Lines.{sheet_lines}
use Rattle.sheet.proofs.values.Values.in_ranges.Goals as goal

pub returns : goal.returns
unfolding in_ranges
returns c = c.all_fit.ensures ∙ (ap (λ (rows : List PlainRow). all_fit rows c.list.result) c.lines.ensures ∙ ap (all_fit sheet_lines) c.list.ensures)
