-- How rows stand in a text.
use Rattle.std.specs.Prelude.{◌≡◌, ℕ, ◌+◌, ◌<◌, List, [], ◌∷◌, ◌++◌, length, drop, Ok, Err, Result, ◌≢◌, slice_index}
use Rattle.descriptions.specs.Lines.{feed, Begins, HasNoFeed}
use Rattle.descriptions.specs.Rows.{PlainRow, row_text}
use Rattle.descriptions.specs.declared.faults.TextFault.{TextFault}
use Rattle.descriptions.specs.declared.faults.TextFault.TheVariants.{NoLineFeed, OtherKey}
use Rattle.descriptions.specs.declared.layout.Layout.{Layout}
use Rattle.descriptions.specs.declared.layout.Layout.TheVariants.{Lines, Fields}
use Rattle.descriptions.specs.declared.span.Span.{Span}
use Rattle.descriptions.specs.declared.value.Value.{Value}

-- The byte of a space.
abbrev pub space : ℕ
space = 32

-- What stands behind a field: nothing, or a space in front of more.
abbrev pub IsParted : List ℕ → Type 0
IsParted [] = Unit {0}
IsParted (b ∷ bytes) = b ≡ space

abbrev pub HasNoSpace : List ℕ → Type 0
HasNoSpace bytes = (k : ℕ) → k < length bytes → slice_index bytes k ≢ space

-- From a byte of a text on stands this part, up to the next space or the text's end.
pub record WordAt (text : List ℕ) (at : ℕ) (part : List ℕ) (next : ℕ) : Type 0 where
  pub text_is : drop at text ≡ part ++ drop next text
  pub whole : HasNoSpace part
  pub parted : IsParted (drop next text)
  pub ends : next ≡ at + length part

-- A row with what stands around it: a line feed behind a line, a space in front of a field.
abbrev pub laid : Layout → List ℕ → List ℕ
laid (Lines window) row = row ++ feed ∷ []
laid Fields row = space ∷ row

-- The rows with their values, one behind the other.
abbrev pub rows_text : Layout → List PlainRow → List Value → List ℕ
rows_text l [] vs = []
rows_text l (r ∷ rs) [] = []
rows_text l (r ∷ rs) (v ∷ vs) = laid l (row_text r v) ++ rows_text l rs vs

-- From a byte of a text on stands this part, where a row is due, and the next row begins at another byte.
abbrev pub PartAt : Layout → (text : List ℕ) (at : ℕ) (part : List ℕ) (next : ℕ) → Type 0
PartAt (Lines window) text at part next = Begins window (drop at text) part × (next ≡ at + length part + 1)
PartAt Fields text at part next = (drop at text ≡ space ∷ drop (at + 1) text) × WordAt text (at + 1) part next

-- No row can stand there: no line feed is in reach, or no space stands where a field is due.
abbrev pub HasNoPart : Layout → (text : List ℕ) (at : ℕ) → Type 0
HasNoPart (Lines window) text at = HasNoFeed window (drop at text)
HasNoPart Fields text at = (bytes : List ℕ) → drop at text ≢ space ∷ bytes

-- The fault that this is.
abbrev pub none_fault : Layout → (at : ℕ) → TextFault
none_fault (Lines window) at = NoLineFeed at
none_fault Fields at = OtherKey 0

-- The first byte of the line that a row is due in, and that of the row itself.
abbrev pub line_byte : Layout → (at : ℕ) → ℕ
line_byte (Lines window) at = at
line_byte Fields at = 0

abbrev pub row_byte : Layout → (at : ℕ) → ℕ
row_byte (Lines window) at = at
row_byte Fields at = at + 1

-- What is behind a row and what stands around it.
abbrev pub behind_row : Layout → (byte count : ℕ) → ℕ
behind_row (Lines window) byte count = byte + count + 1
behind_row Fields byte count = byte + count

-- What looking for a row answers.
abbrev pub PartFound : Layout → (text : List ℕ) (at : ℕ) → Result Span TextFault → Type 0
PartFound l text at (Ok s) = PartAt l text at s.bytes.now (behind_row l s.byte (length s.bytes.now)) × (s.byte ≡ row_byte l at)
PartFound l text at (Err f) = HasNoPart l text at × (f ≡ none_fault l at)
