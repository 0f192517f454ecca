-- The laws of reading and writing, for all descriptions.
use Rattle.std.specs.Prelude.{◌≡◌, ℕ, ◌+◌, Bool, true, false, not, ◌&&◌, ◌==◌, nat_lt, min, max, List, [], ◌∷◌, ◌++◌, length, drop, Some, Ok, Result}
use Rattle.descriptions.specs.Fitting.{all_fit}
use Rattle.descriptions.specs.Layouts.{space, IsParted, rows_text}
use Rattle.descriptions.specs.Reading.{RowsAnswer}
use Rattle.descriptions.specs.Rows.{Kind, PlainRow, plain_rows, word, number, signed}
use Rattle.descriptions.specs.Writing.{Written}
use Rattle.descriptions.specs.declared.description.Description.{Description}
use Rattle.descriptions.specs.declared.faults.ValueFault.{ValueFault}
use Rattle.descriptions.specs.declared.layout.Layout.{Layout}
use Rattle.descriptions.specs.declared.layout.Layout.TheVariants.{Lines, Fields}
use Rattle.descriptions.specs.declared.value.Value.{Value}

-- Every byte is above the space, so neither a space nor a line feed is among them.
unfoldable pub is_plain : List ℕ → Bool
is_plain [] = true
is_plain (b ∷ bytes) = nat_lt space b && is_plain bytes

-- So is every one of the words.
unfoldable pub all_plain : List (List ℕ) → Bool
all_plain [] = true
all_plain (w ∷ ws) = is_plain w && all_plain ws

-- The same bytes.
unfoldable pub is_same : List ℕ → List ℕ → Bool
is_same [] [] = true
is_same [] (c ∷ b) = false
is_same (c ∷ a) [] = false
is_same (c ∷ a) (d ∷ b) = c == d && is_same a b

-- The word is none of these.
unfoldable pub is_none_of : List ℕ → List (List ℕ) → Bool
is_none_of w [] = true
is_none_of w (x ∷ xs) = not (is_same w x) && is_none_of w xs

-- No word stands twice.
unfoldable pub all_differ : List (List ℕ) → Bool
all_differ [] = true
all_differ (w ∷ ws) = is_none_of w ws && all_differ ws

-- The length of the longest word.
unfoldable pub longest : List (List ℕ) → ℕ
longest [] = 0
longest (w ∷ ws) = max (length w) (longest ws)

-- How many bytes the text of a value has at most.
unfoldable pub value_room : Kind → ℕ
value_room (word ws) = longest ws
value_room (number r) = min r.max_digits 10
value_room (signed r) = 1 + min r.max_digits 10

-- A line has room in the window, with its equals sign and its line feed.
unfoldable pub has_room : Layout → PlainRow → Bool
has_room (Lines window) r = nat_lt (length r.key + 1 + value_room r.kind) window
has_room Fields r = true

-- The words of a kind differ, and every byte of them is above the space.
unfoldable pub are_words : Kind → Bool
are_words (word ws) = all_plain ws && all_differ ws
are_words (number r) = true
are_words (signed r) = true

-- The rows can be told apart in a text: every byte of a key or a word is above the space, a row's words differ, and its line is within the window.
unfoldable pub is_described : Layout → List PlainRow → Bool
is_described l [] = true
is_described l (r ∷ rs) = (is_plain r.key && (are_words r.kind && has_room l r)) && is_described l rs

-- What may stand behind the last row: anything behind a line, and behind a field nothing or a space in front of more.
abbrev pub MayFollow : Layout → List ℕ → Type 0
MayFollow (Lines window) rest = Unit {0}
MayFollow Fields rest = IsParted rest

-- From a byte of a text on stands the text of values that fit.
pub record TextStands (l : Layout) (rows : List PlainRow) (vs : List Value) (text : List ℕ) (at next : ℕ) : Type 0 where
  pub fit : all_fit rows vs ≡ true
  pub text_is : drop at text ≡ rows_text l rows vs ++ drop next text
  pub ends : next ≡ at + length (rows_text l rows vs)

-- A text has one answer at most.
unfoldable pub OneAnswer : Layout → (range_number : ℕ) → List PlainRow → (text : List ℕ) (at : ℕ) → Type 0
OneAnswer l n rows text at =
    is_described l rows ≡ true → (r s : Result (List Value) ValueFault) (i j : ℕ) → RowsAnswer l n rows text at i r → RowsAnswer l n rows text at j s → (r ≡ s) × (i ≡ j)

-- Where the text of values that fit stands, they are read and no others.
unfoldable pub TakenExactly : Layout → (range_number : ℕ) → List PlainRow → (text : List ℕ) (at : ℕ) → Type 0
TakenExactly l n rows text at =
    is_described l rows ≡ true → (vs : List Value) (end next : ℕ) (r : Result (List Value) ValueFault)
    → TextStands l rows vs text at end → MayFollow l (drop end text) → RowsAnswer l n rows text at next r → (r ≡ Ok vs) × (next ≡ end)

-- What is read is the text of the values that it is read as.
unfoldable pub ReadIsText : Layout → List PlainRow → (text : List ℕ) (at : ℕ) → Type 0
ReadIsText l rows text at = (vs : List Value) (n next : ℕ) → RowsAnswer l n rows text at next (Ok vs) → TextStands l rows vs text at next

-- What is written is read back as the values that it was written for.
unfoldable pub WrittenIsRead : Description → Type 0
WrittenIsRead d =
    is_described d.layout (plain_rows d.rows.now) ≡ true → (vs : List Value) (before after : List ℕ) (at end next : ℕ) (r : Result (List Value) ValueFault)
    → Written d vs before at after (Some end) → MayFollow d.layout (drop end after)
    → RowsAnswer d.layout d.range_number (plain_rows d.rows.now) after at next r → (r ≡ Ok vs) × (next ≡ end)
