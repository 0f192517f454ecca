use Rattle.std.proofs.Common.{◌≡◌, ◌∙◌, ℕ, List, ap, subst, sym, take}
use Rattle.std.proofs.lemmas.List.{take_rest}
use Rattle.std.proofs.lemmas.Result.{err_from_is_err_and}
use Rattle.models.specs.Meanings.{meaning_of}
use Rattle.models.specs.Named.{name_of, values_of}
use Rattle.models.specs.declared.sheet_model.SheetModel.{SheetModel}
use Rattle.sheet.specs.declared.admitted.Admitted.{Admitted}
use Rattle.sheet.specs.declared.values.Values.{Values}
use Rattle.sheet_text.specs.Sheets.{FaultDue, IsText}
use Rattle.supervision.specs.Lists.{capacity_of}
use Rattle.supervision.proofs.Promises.{same_state}
use Rattle.session.specs.Texts.{sheet_part}
use Rattle.session.proofs.Texts.{calls_are, lines_as, sheet_is, text_answered}
use Rattle.session.proofs.answering.answer_text.Goals as goal

pub returns-in_err-sheet-clause-fault : goal.returns-in_err-sheet-clause-fault
returns-in_err-sheet-clause-fault c =
    let p = err_from_is_err_and c.from_residual.result c.from_residual.ensures.1 in
    let part = sheet_is c.args.text.now c.min.result c.sheet_end-end.result c.min.ensures c.sheet_end-end.ensures.value in
    rw (p.1, p.2) (subst (λ (t : List ℕ). FaultDue t c.in_err-sheet.field-0.0) part c.in_err-sheet.ensures.answers)

pub returns-in_err-sheet-clause-exactly : goal.returns-in_err-sheet-clause-exactly
returns-in_err-sheet-clause-exactly c =
    let part = sheet_is c.args.text.now c.min.result c.sheet_end-end.result c.min.ensures c.sheet_end-end.ensures.value in
    λ v is. absurd (c.in_err-sheet.ensures.exactly v (subst (λ (t : List ℕ). IsText t v) (sym part) is))

pub returns-clause-answered : goal.returns-clause-answered
returns-clause-answered c =
    let text = c.args.text.now in
    let sheet : Values = c.in_ok-sheet.sheet.values in
    let part = sheet_is c.args.text.now c.min.result c.sheet_end-end.result c.min.ensures c.sheet_end-end.ensures.value in
    let rest = take_rest (take c.min.result c.args.text.now) c.sheet_end-end.result ∙ calls_are c.args.text.now c.min.result c.sheet_end-end.result c.min.ensures c.sheet_end-end.ensures.value in
    let o = c.open-lists.ensures in
    let model : meaning_of (name_of c.open-lists.result.0.model) (values_of c.open-lists.result.0.model) ≡ meaning_of c.in_ok-sheet.sheet.values.model c.in_ok-sheet.sheet.values =
    ap (λ (m : SheetModel). meaning_of (name_of m) (values_of m)) o.model
    ∙ (ap (λ n. meaning_of n (values_of c.new-model.result)) c.new-model.ensures.name ∙ ap (meaning_of c.in_ok-sheet.sheet.values.model) c.new-model.ensures.values) in
    let is : IsText (sheet_part c.args.text.now) c.in_ok-sheet.sheet.values = subst (λ (t : List ℕ). IsText t c.in_ok-sheet.sheet.values) part c.in_ok-sheet.ensures.answers in
    text_answered text (capacity_of c.args.memory) c.answer_lines-answered.result c.answer_lines-answered.new.records c.answer_lines-answered.new.shown
    sheet c.in_ok-sheet.sheet.valid is
    (lines_as c.answer_lines-answered.result c.answer_lines-answered.new.records c.answer_lines-answered.new.shown (ap (λ (x : Admitted). x.values) o.sheet) model (same_state o.empty o.phase o.clear) rest c.answer_lines-answered.ensures.lines)
