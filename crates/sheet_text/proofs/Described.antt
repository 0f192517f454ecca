-- What the description of a sheet's text answers, in terms of the sheet's lines.
use Rattle.std.proofs.Common.{◌≡◌, ℕ, List, length, take, Ok, Err, Some, None, Option, sym, ap, ◌∙◌}
use Rattle.std.proofs.lemmas.List.{length-map}
use Rattle.descriptions.specs.Reading.{ReadAnswers, RowsStand, RowsStop}
use Rattle.descriptions.specs.Rows.{plain_row, plain_rows}
use Rattle.descriptions.specs.Writing.{Written}
use Rattle.descriptions.specs.declared.description.Description.{Description}
use Rattle.descriptions.specs.declared.faults.ValueFault.{ValueFault}
use Rattle.descriptions.specs.declared.value.Value.{Value}
use Rattle.sheet.specs.Lines.{sheet_lines}
use Rattle.sheet_text.specs.Sheets.{sheet_layout, range_number}
use Rattle.sheet_text.proofs.Written.{LinesWritten}

pub record IsSheet (d : Description) : Type 0 where
  pub rows : plain_rows d.rows.now ≡ sheet_lines
  pub layout : d.layout ≡ sheet_layout
  pub number : d.range_number ≡ range_number

module _ (d : Description) (is : IsSheet d) where
  pub stops : (text : List ℕ) (at next : ℕ) (f : ValueFault) → ReadAnswers d 12 text at next (Err f) → RowsStop sheet_layout range_number sheet_lines text at f
  stops text at next f a = rw (is.layout, is.number, is.rows) at a.0

  pub stands : (text : List ℕ) (at next : ℕ) (list : List Value) → ReadAnswers d 12 text at next (Ok list) → RowsStand sheet_layout sheet_lines (take 12 list) text at next
  stands text at next list a =
      let count : length d.rows.now ≡ 12 = sym (length-map d.rows.now plain_row) ∙ ap length is.rows in
      rw (is.layout, is.rows, count) at a.0

  pub lines_written : (list : List Value) (before after : List ℕ) (r : Option ℕ) → Written d list before 0 after r → LinesWritten list before after r
  lines_written list before after (Some end) w = rw (is.layout, is.rows) at w
  lines_written list before after None w = rw (is.layout, is.rows) at w
