-- What writing a sheet into memory answers, and what the memory is then.
use Rattle.std.specs.Prelude.{◌≡◌, ℕ, ◌<◌, ◌≤◌, List, ◌++◌, length, take, drop, Ok, Err, Result}
use Rattle.sheet.specs.declared.draft.Draft.{Draft}
use Rattle.sheet.specs.declared.values.Values.{Values}
use Rattle.sheet_text.specs.Sheets.{written_sheet, SheetAnswers, IsTaken}
use Rattle.sheet_text.specs.declared.faults.SheetFault.{SheetFault}
use Rattle.sheet_text.specs.declared.refusal.Refusal.{Refusal}
use Rattle.sheet_text.specs.declared.refusal.Refusal.TheVariants.{NoRoom}

-- How many bytes of memory are asked for, whatever the sheet.
abbrev pub room : ℕ
room = 128

-- The text of the sheet stands in front, up to `end`, and the bytes behind it are as before.
pub record Stands (v : Values) (before after : List ℕ) (end : ℕ) : Type 0 where
  pub asked : room ≤ length before
  pub ends : end ≡ length (written_sheet v)
  pub within : end ≤ room
  pub bytes : after ≡ written_sheet v ++ drop end before

-- There is less memory than asked for, and nothing is altered.
pub record IsRefused (before after : List ℕ) : Type 0 where
  pub short : length before < room
  pub same : after ≡ before

-- What writing a sheet with the values v answers.
abbrev pub Answers : Values → (before after : List ℕ) → Result ℕ Refusal → Type 0
Answers v before after (Ok end) = Stands v before after end
Answers v before after (Err NoRoom) = IsRefused before after

-- What stands up to `end` is read as the sheet with these values, and answered nothing else.
abbrev pub ReadsBack : Values → (after : List ℕ) → (end : ℕ) → Type 0
ReadsBack v after end = (r : Result Draft SheetFault) → SheetAnswers (take end after) r → IsTaken v r
