use Rattle.std.proofs.Common.{◌≡◌, ◌∷◌, [], ◌∙◌, take, refl, rules, tests}
use Rattle.std.proofs.lemmas.Iterator.{YieldsList-from_slice}
use Rattle.std.proofs.lemmas.List.Sums.{fold-append}
use Rattle.std.specs.List.{fold, prefix_len}
use Rattle.history.specs.History.{steepest}
use Rattle.history.proofs.Tracked.{valid_ascends}
use Rattle.supervision.specs.Items.{sections_in}
use Rattle.supervision.proofs.Grades.{inside, over, pass_inside, pass_is_least, with_one}
use Rattle.supervision.proofs.stretch.Stretch.least_grade.Goals as goal

pub returns : goal.returns
returns c =
    let start = c.args.self.start.millimetres in
    let end = c.args.self.end.millimetres in
    let items = c.args.sections.items.now in
    over (λ y. y.now) (λ ys a. a.thousandths ≡ fold (with_one start) steepest ys) c.fold.ensures.ran
    (YieldsList-from_slice (take (prefix_len (inside end) items) items) (cc))
    (λ ys a x b f' j k. let more = fold-append (with_one start) steepest ys (x.now ∷ []) in search (rules, tests)) refl
    ∙ (pass_inside start end items steepest
    ∙ pass_is_least start end (sections_in items) (valid_ascends (sections_in items) c.args.sections.valid) c.args.self.forward)
