-- The two parts of a text: its sheet and its call lines.
use Rattle.std.specs.Prelude.{ℕ, List, drop, take}
use Rattle.session.specs.SheetLines.{end_of_lines}

-- Of a longer text only the first 65,536 bytes count.
abbrev pub counted_bytes : List ℕ → List ℕ
counted_bytes text = take 65536 text

-- The first twelve lines.
abbrev pub sheet_part : List ℕ → List ℕ
sheet_part text = take (end_of_lines 12 (counted_bytes text)) (counted_bytes text)

abbrev pub call_part : List ℕ → List ℕ
call_part text = drop (end_of_lines 12 (counted_bytes text)) (counted_bytes text)
