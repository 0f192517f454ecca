-- A sheet that can be admitted is written where there is room, and what is written is read as it.
use Rattle.std.proofs.Common.{◌≡◌, ℕ, ◌+◌, ◌<◌, ◌≤◌, true, List, length, take, drop, Some, None, Option, IsSome, sym, refl, ap, ◌∙◌, arith}
use Rattle.std.proofs.lemmas.Bool.{and_parts}
use Rattle.std.proofs.lemmas.List.{take_at}
use Rattle.descriptions.specs.Fitting.{all_fit}
use Rattle.descriptions.specs.Layouts.{rows_text}
use Rattle.descriptions.specs.Writing.{Put}
use Rattle.descriptions.specs.declared.value.Value.{Value}
use Rattle.sheet.specs.Lines.{sheet_lines, list_of}
use Rattle.sheet.specs.Ranges.{in_ranges, brake_allowed, admissible}
use Rattle.sheet.specs.declared.values.Values.{Values}
use Rattle.sheet_text.proofs.Acceptance.{taken}
use Rattle.sheet_text.proofs.Room.{short}
use Rattle.sheet_text.specs.Sheets.{sheet_layout, written_sheet}
use Rattle.sheet_text.specs.Writing.{room, Stands, ReadsBack}

-- what writing the lines from the first byte on answers
abbrev pub LinesWritten : List Value → (before after : List ℕ) → Option ℕ → Type 0
LinesWritten list before after (Some end) = (all_fit sheet_lines list ≡ true) × Put before 0 (rows_text sheet_layout sheet_lines list) after end
LinesWritten list before after None = (all_fit sheet_lines list ≡ true → length before < 0 + length (rows_text sheet_layout sheet_lines list)) × (after ≡ before)

module _ (v : Values) (valid : admissible v ≡ true) (before after : List ℕ) (asked : room ≤ length before) where
  ranged : in_ranges v ≡ true
  ranged = (and_parts (in_ranges v) (brake_allowed v.train v.brake) valid).0

  pub is_written : (r : Option ℕ) → LinesWritten (list_of v) before after r → IsSome r
  unfolding written_sheet in_ranges
  is_written (Some end) w = refl
  is_written None w = absurd (too_long (length (written_sheet v)) (short v valid) (w.0 ranged))
    where
      too_long : (n : ℕ) → n ≤ room → length before < 0 + n → ⊥
      too_long n few many = omega (arith, asked)

  pub stands : (end : ℕ) → LinesWritten (list_of v) before after (Some end) → Stands v before after end
  unfolding written_sheet
  stands end w = record {
    asked = asked;
    ends = from_zero end (length (written_sheet v)) w.1.ends;
    within = few end (length (written_sheet v)) w.1.ends (short v valid);
    bytes = w.1.bytes;
  }
    where
      from_zero : (n m : ℕ) → n ≡ 0 + m → n ≡ m
      from_zero n m e = omega (arith, e)

      few : (n m : ℕ) → n ≡ 0 + m → m ≤ room → n ≤ room
      few n m e h = omega (arith, e, h)

pub reads_back : (v : Values) → admissible v ≡ true → (before after : List ℕ) (end : ℕ) → Stands v before after end → ReadsBack v after end
reads_back v valid before after end s r answer =
    let parts = and_parts (in_ranges v) (brake_allowed v.train v.brake) valid in
    taken (take end after) r answer v (record {
      ranged = parts.0;
      allowed = parts.1;
      same = ap (take end) s.bytes ∙ take_at (written_sheet v) (drop end before) end (sym s.ends);
    })
