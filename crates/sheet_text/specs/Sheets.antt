-- The text of a sheet, and what reading one answers: the sheet whose text it is, or the first question with a no.
use Rattle.std.specs.Prelude.{◌≡◌, ℕ, true, false, List, ◌++◌, length, drop, Ok, Err, Result, ◌≢◌}
use Rattle.descriptions.specs.Layouts.{rows_text}
use Rattle.descriptions.specs.Reading.{RowsStop}
use Rattle.descriptions.specs.declared.faults.ValueFault.{ValueFault}
use Rattle.descriptions.specs.declared.layout.Layout.{Layout}
use Rattle.descriptions.specs.declared.layout.Layout.TheVariants.{Lines}
use Rattle.sheet.specs.Lines.{sheet_lines, list_of}
use Rattle.sheet.specs.Ranges.{in_ranges, brake_allowed}
use Rattle.sheet.specs.Refusals.{number}
use Rattle.sheet.specs.declared.refusal.Refusal.TheVariants.{OutOfRange}
use Rattle.sheet.specs.declared.values.Values.{Values}
use Rattle.sheet.specs.declared.admitted.Admitted.{Admitted}
use Rattle.sheet.specs.declared.draft.Draft.{Draft}
use Rattle.sheet_text.specs.declared.faults.SheetFault.{SheetFault}
use Rattle.sheet_text.specs.declared.faults.SheetFault.TheVariants.{Value, LeftOver, GoodsBrake}

-- Each of the twelve lines has at most 32 bytes, its line feed among them.
abbrev pub sheet_layout : Layout
sheet_layout = Lines 32

-- A value out of its range is refused with the number that admitting refuses it with.
abbrev pub range_number : ℕ
range_number = number OutOfRange

-- The text of a sheet: its lines with its values.
unfoldable pub written_sheet : Values → List ℕ
written_sheet v = rows_text sheet_layout sheet_lines (list_of v)

-- The text is that of this sheet.
pub record IsText (text : List ℕ) (v : Values) : Type 0 where
  pub ranged : in_ranges v ≡ true
  pub allowed : brake_allowed v.train v.brake ≡ true
  pub same : text ≡ written_sheet v

-- The text begins with that of a sheet whose values are in range, which ends at a byte.
pub record Fronts (text : List ℕ) (v : Values) (end : ℕ) : Type 0 where
  pub ranged : in_ranges v ≡ true
  pub front : text ≡ written_sheet v ++ drop end text
  pub ends : end ≡ length (written_sheet v)

-- One of the twelve lines has this fault, and those before it stand in the text.
unfoldable pub Stops : (text : List ℕ) → ValueFault → Type 0
Stops text f = RowsStop sheet_layout range_number sheet_lines text 0 f

-- What the lines of a text answer, with the byte behind the last as the next one.
abbrev pub FrontAnswers : List ℕ → (next : ℕ) → Result Values ValueFault → Type 0
FrontAnswers text next (Ok v) = Fronts text v next
FrontAnswers text next (Err f) = Stops text f

-- Whether the brake stands with a train that it may stand with.
abbrev pub BrakeAsked : Values → Result (Unit {0}) SheetFault → Type 0
BrakeAsked v (Ok u) = brake_allowed v.train v.brake ≡ true
BrakeAsked v (Err f) = (f ≡ GoodsBrake) × (brake_allowed v.train v.brake ≡ false)

-- The first question with a no.
abbrev pub FaultDue : List ℕ → SheetFault → Type 0
FaultDue text (Value f) = Stops text f
FaultDue text (LeftOver b) = (v : Values) × Fronts text v b × (b ≢ length text)
FaultDue text GoodsBrake = (v : Values) × (in_ranges v ≡ true) × (text ≡ written_sheet v) × (brake_allowed v.train v.brake ≡ false)

abbrev pub SheetAnswers : List ℕ → Result Draft SheetFault → Type 0
SheetAnswers text (Ok d) = IsText text d.values
SheetAnswers text (Err f) = FaultDue text f

-- The draft has these values.
abbrev pub IsTaken : Values → Result Draft SheetFault → Type 0
IsTaken v (Ok d) = d.values ≡ v
IsTaken v (Err f) = ⊥

-- A text is the text of one sheet at most.
abbrev pub OneSheet : List ℕ → Type 0
OneSheet text = (v w : Values) → IsText text v → IsText text w → v ≡ w

-- The text is the only one of the sheet.
abbrev pub IsOnlyText : List ℕ → Values → Type 0
IsOnlyText text v = (other : List ℕ) → IsText other v → other ≡ text

-- A text has one answer at most.
abbrev pub OneAnswer : List ℕ → Type 0
OneAnswer text = (r s : Result Draft SheetFault) → SheetAnswers text r → SheetAnswers text s → r ≡ s

-- The same of an admitted sheet.
abbrev pub AdmittedAnswers : List ℕ → Result Admitted SheetFault → Type 0
AdmittedAnswers text (Ok a) = IsText text a.values
AdmittedAnswers text (Err f) = FaultDue text f

-- The admitted sheet has these values.
abbrev pub IsAdmitted : Values → Result Admitted SheetFault → Type 0
IsAdmitted v (Ok a) = a.values ≡ v
IsAdmitted v (Err f) = ⊥
