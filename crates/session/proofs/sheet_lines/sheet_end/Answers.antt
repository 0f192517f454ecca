use Rattle.std.proofs.Common.{◌≡◌, rules, ◌<◌, length, ◌∙◌, arith}
use Rattle.std.specs.Iterator.Runs.{YieldsRun}
use Rattle.session.specs.SheetLines.{end_of_lines}
use Rattle.session.proofs.Feeds.{within, drained}
use borrow.Author.Tests.{tests}
use Rattle.session.proofs.sheet_lines.sheet_end.Goals as goal

pub sum-requires-clause-fits : goal.sum-requires-clause-fits
unfolding YieldsRun
sum-requires-clause-fits c = λ p seen from.
    let small = within _ _ (λ f a b q k. search (rules, tests)) (λ f a n q k. search rules) p.from p.gave.0.0 p.items p.gave.0.1 in
    let whole : length p.from.iter.iter.rest.now ≡ length c.args.text.now = search rules in
    let size : length c.args.text.now < 18446744073709551616 = search rules in
    omega (arith, small, whole, size)

pub returns-clause-value : goal.returns-clause-value
returns-clause-value c =
    let ran = c.sum.ensures.ran in
    let end = ran.1 tt in
    let all = drained _ _ (λ f a b q k. search (rules, tests)) (λ f a n q k. search rules) c.map.result end.1.0 end.0 ran.0 end.1.1 end.1.2 in
    let same : end_of_lines c.map.result.iter.n c.map.result.iter.iter.rest.now ≡ end_of_lines 12 c.args.text.now = search rules in
    ran.2 ∙ (all ∙ same)

pub returns-clause-within : goal.returns-clause-within
returns-clause-within c =
    let ran = c.sum.ensures.ran in
    let end = ran.1 tt in
    let small = within _ _ (λ f a b q k. search (rules, tests)) (λ f a n q k. search rules) c.map.result end.1.0 ran.0 end.1.1 in
    let whole : length c.map.result.iter.iter.rest.now ≡ length c.args.text.now = search rules in
    omega (arith, ran.2, small, whole)
