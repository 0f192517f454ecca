-- What is shown of the lines of a text, by the records of the calls among them.
use Rattle.std.specs.Prelude.{◌≡◌, ◌≢◌, ℕ, ◌-◌, ◌⊎◌, Bool, true, false, List, [], ◌∷◌, length, take, None, Ok, Err, Option}
use Rattle.sheet.specs.declared.values.Values.{Values}
use Rattle.sheet_text.specs.Sheets.{IsText}
use Rattle.braking.specs.Meaning.{Meaning}
use Rattle.models.specs.Meanings.{meaning_of}
use Rattle.calls.specs.Answers.{Answer, answer_number}
use Rattle.calls.specs.declared.call.Call.{Call}
use Rattle.calls.specs.declared.phase.Phase.{Phase}
use Rattle.calls.specs.declared.record.Record.{Record}
use Rattle.calls.specs.declared.zone.Zone.{Zone}
use Rattle.call_text.specs.Faults.{number}
use Rattle.call_text.specs.Lines.{TextAnswers}
use Rattle.call_text.specs.declared.call_fault.CallFault.{CallFault}
use Rattle.history.specs.Lines.{GivesOneCeilingAtMost, GivesOneGrade, KeepsTheLines}
use Rattle.history.specs.Runs.{run}
use Rattle.history.specs.State.{State, Track, start}
use Rattle.session.specs.Lines.{Line, ReadsTo, calls_of}
use Rattle.session.specs.Texts.{call_part, sheet_part}
use Rattle.session.specs.declared.answered.Answered.{Answered}
use Rattle.session.specs.declared.shown.Shown.{Shown}

-- The zone of an accepted sample.
abbrev pub zone_in : Answer → Option Zone
zone_in (Ok z) = z
zone_in (Err _) = None

abbrev pub of_fault : CallFault → Phase → Shown
of_fault f p = record { number = number f; phase = p; zone = None }

abbrev pub of_record : Record → Shown
of_record r = record { number = answer_number r.answer; phase = r.phase; zone = zone_in r.answer }

-- What is shown of the lines, one for one, by the records of the calls among them, one for one too:
-- of a line with a fault its number and the phase so far; of a call its record, and the phase is then that of the record.
abbrev pub Shows : Phase → List Line → List Record → List Shown → Type 0
Shows p [] [] [] = Unit {0}
Shows p (Err f ∷ lines) records (s ∷ shown) = (s ≡ of_fault f p) × Shows p lines records shown
Shows p (Ok c ∷ lines) (r ∷ records) (s ∷ shown) = (r.call ≡ c) × (s ≡ of_record r) × Shows r.phase lines records shown
Shows p _ _ _ = ⊥

-- Where a run ends: with the text, or where no room is left for what is shown of a line, or for the record of a call.
abbrev pub Ends : (ended : Bool) → (rest : List ℕ) → (record_room shown_room : ℕ) → Type 0
Ends true rest record_room shown_room = rest ≡ []
Ends false rest record_room shown_room = (rest ≢ []) × ((shown_room ≡ 0) ⊎ ((record_room ≡ 0) × ((c : Call) × (next : ℕ) × TextAnswers rest (Ok c) next)))

-- The lines of a text are answered from a state on, and so many of the records and of what is shown are theirs.
pub record AnswersLines (sheet : Values) (m : Meaning) (s : State) (text : List ℕ) (a : Answered) (records : List Record) (shown : List Shown) : Type 0 where
  pub lines : List Line
  pub rest : List ℕ
  pub read : ReadsTo text lines rest
  pub ends : Ends a.ended rest (length records - a.calls) (length shown - a.lines)
  pub lines_all : a.lines ≡ length lines
  pub calls_all : a.calls ≡ length (calls_of lines)
  pub history : take a.calls records ≡ run sheet m s (calls_of lines)
  pub shows : Shows s.phase lines (take a.calls records) (take a.lines shown)

-- A text is answered: its sheet is this one, its call lines are answered over the model that the sheet names, and their records keep the three lines; every place and every stretch has one grade, and every place one ceiling at most.
pub record AnswersText (text : List ℕ) (track : Track) (a : Answered) (records : List Record) (shown : List Shown) : Type 0 where
  pub sheet : Values
  pub is_sheet : IsText (sheet_part text) sheet
  pub answers : AnswersLines sheet (meaning_of sheet.model sheet) (start track) (call_part text) a records shown
  pub keeps : KeepsTheLines sheet (meaning_of sheet.model sheet) (take a.calls records)
  pub grades : GivesOneGrade sheet (take a.calls records)
  pub ceilings : GivesOneCeilingAtMost (take a.calls records)
