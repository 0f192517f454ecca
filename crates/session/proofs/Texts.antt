-- A text that is answered, from the mission of its sheet.
use Rattle.std.proofs.Common.{◌≡◌, ℕ, min, true, List, length, take, drop, sym, ap, ◌∙◌, subst, inl, inr, arith}
use Rattle.std.proofs.lemmas.Bool.{cases_lt}
use Rattle.std.proofs.lemmas.List.{take_all}
use Rattle.sheet.specs.Ranges.{admissible}
use Rattle.sheet.specs.declared.values.Values.{Values}
use Rattle.braking.specs.Meaning.{Meaning}
use Rattle.models.specs.Lawfulness.{model_lawful}
use Rattle.models.specs.Meanings.{meaning_of}
use Rattle.calls.specs.declared.record.Record.{Record}
use Rattle.history.specs.History.{History}
use Rattle.history.specs.Lines.{GivesOneCeilingAtMost, GivesOneGrade, KeepsTheLines}
use Rattle.history.specs.State.{Capacity, empty_track, State, start}
use Rattle.history.proofs.Runs.{every_run, one_grade, one_ceiling}
use Rattle.sheet_text.specs.Sheets.{IsText}
use Rattle.session.specs.Answers.{AnswersLines, AnswersText}
use Rattle.session.specs.Lines.{calls_of}
use Rattle.session.specs.SheetLines.{end_of_lines}
use Rattle.session.specs.Texts.{call_part, counted_bytes, sheet_part}
use Rattle.session.specs.declared.answered.Answered.{Answered}
use Rattle.session.specs.declared.shown.Shown.{Shown}

-- What counts of a text, by its length.
pub counted_is : (text : List ℕ) → take (min (length text) 65536) text ≡ counted_bytes text
counted_is text =
    elim (cases_lt 65536 (length text)) [
      | inl longer ↦ let m : min (length text) 65536 ≡ 65536 = omega arith in ap (λ (n : ℕ). take n text) m
      | inr short ↦
          let m : min (length text) 65536 ≡ length text = omega arith in
          ap (λ (n : ℕ). take n text) m ∙ (take_all (length text) text (omega arith) ∙ sym (take_all 65536 text short))
    ]

module _ (text : List ℕ) (n end : ℕ) (size : n ≡ min (length text) 65536) (feeds : end ≡ end_of_lines 12 (take n text)) where
  counts : take n text ≡ counted_bytes text
  counts = ap (λ (k : ℕ). take k text) size ∙ counted_is text

  ends : end ≡ end_of_lines 12 (counted_bytes text)
  ends = feeds ∙ ap (end_of_lines 12) counts

  pub sheet_is : take end (take n text) ≡ sheet_part text
  sheet_is = ap (λ (k : ℕ). take k (take n text)) ends ∙ ap (take (end_of_lines 12 (counted_bytes text))) counts

  pub calls_are : drop end (take n text) ≡ call_part text
  calls_are = ap (λ (k : ℕ). drop k (take n text)) ends ∙ ap (drop (end_of_lines 12 (counted_bytes text))) counts

-- The same lines, by other words for what they are answered by.
pub lines_as : {sheet sheet' : Values} {m m' : Meaning} {s s' : State} {text text' : List ℕ} (a : Answered) (records : List Record) (shown : List Shown) →
    sheet ≡ sheet' → m ≡ m' → s ≡ s' → text ≡ text' → AnswersLines sheet m s text a records shown → AnswersLines sheet' m' s' text' a records shown
lines_as {sheet} {sheet'} {m} {m'} {s} {s'} {text} {text'} a records shown e f g h w =
    subst (λ (x : List ℕ). AnswersLines sheet' m' s' x a records shown) h
    (subst (λ (x : State). AnswersLines sheet' m' x text a records shown) g
    (subst (λ (x : Meaning). AnswersLines sheet' x s text a records shown) f
    (subst (λ (x : Values). AnswersLines x m s text a records shown) e w)))

-- The records of the lines are those of a run, and so keep the lines of the law.
pub text_answered : (text : List ℕ) (capacity : Capacity) (a : Answered) (records : List Record) (shown : List Shown) (sheet : Values) → admissible sheet ≡ true → IsText (sheet_part text) sheet →
    AnswersLines sheet (meaning_of sheet.model sheet) (start (empty_track capacity)) (call_part text) a records shown → AnswersText text (empty_track capacity) a records shown
text_answered text capacity a records shown sheet valid is w = record {
  sheet = sheet;
  is_sheet = is;
  answers = w;
  keeps = subst (λ (h : History). KeepsTheLines sheet (meaning_of sheet.model sheet) h) (sym w.history) (every_run sheet (meaning_of sheet.model sheet) (model_lawful sheet.model sheet valid) capacity (calls_of w.lines));
  grades = subst (GivesOneGrade sheet) (sym w.history) (one_grade sheet (meaning_of sheet.model sheet) capacity (calls_of w.lines));
  ceilings = subst GivesOneCeilingAtMost (sym w.history) (one_ceiling sheet (meaning_of sheet.model sheet) capacity (calls_of w.lines));
}
