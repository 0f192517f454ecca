-- What the first line of a text answers, by any table of kinds, and where the next line begins.
use Rattle.std.specs.Prelude.{◌≡◌, ℕ, ◌+◌, ◌<◌, ◌≤◌, Bool, true, ◌&&◌, ◌⊎◌, List, [], ◌∷◌, ◌++◌, map, length, drop, Ok, Err, Result}
use Rattle.descriptions.specs.Laws.{is_plain, is_described, all_differ}
use Rattle.descriptions.specs.Layouts.{WordAt, IsParted}
use Rattle.descriptions.specs.Lines.{feed, Begins, HasNoFeed}
use Rattle.descriptions.specs.Reading.{RowsStop}
use Rattle.descriptions.specs.declared.faults.TextFault.TheVariants.{NoLineFeed, OtherKey}
use Rattle.descriptions.specs.declared.faults.ValueFault.{ValueFault}
use Rattle.descriptions.specs.declared.faults.ValueFault.TheVariants.{Text}
use Rattle.descriptions.specs.declared.layout.Layout.TheVariants.{Fields}
use Rattle.descriptions.specs.declared.value.Value.{Value}
use Rattle.call_text.specs.Kinds.{PlainCallKind, kind_at, head_text, kind_text, IsOfKind}
use Rattle.call_text.specs.declared.call_fault.CallFault.{CallFault}
use Rattle.call_text.specs.declared.call_fault.CallFault.TheVariants.{Value as ValueOf, LeftOver}

-- How many bytes a line may have with its line feed.
abbrev pub line_window : ℕ
line_window = 96

-- The line begins with the field that names the kind, which ends at a byte.
abbrev pub HeadAt : (line : List ℕ) → PlainCallKind → (at : ℕ) → Type 0
HeadAt line k at = WordAt line 0 (head_text k) at

module _ (kinds : List PlainCallKind) where
  -- The line names none of the kinds.
  abbrev pub IsUnknown : (line : List ℕ) → ValueFault → Type 0
  IsUnknown line f = (f ≡ Text (OtherKey 0)) × ((i at : ℕ) → i < length kinds → HeadAt line (kind_at kinds i) at → ⊥)

  -- One of the fields due behind the name of a kind has this fault.
  abbrev pub StopsIn : (line : List ℕ) → ValueFault → Type 0
  StopsIn line f = (i : ℕ) × (at : ℕ) × (i < length kinds) × HeadAt line (kind_at kinds i) at × RowsStop Fields (kind_at kinds i).range_number (kind_at kinds i).fields line at f

  -- The line begins with that of a kind with its values, and goes on with a space at this byte.
  pub record GoesOn (line : List ℕ) (b i : ℕ) (vs : List Value) : Type 0 where
    pub of_kind : IsOfKind kinds i vs
    pub text_is : line ≡ kind_text kinds i vs ++ drop b line
    pub ends : b ≡ length (kind_text kinds i vs)
    pub parted : IsParted (drop b line)
    pub more : b < length line

  -- The first question with a no. The line is without its line feed.
  abbrev pub LineFault : (line : List ℕ) → CallFault → Type 0
  LineFault line (ValueOf f) = IsUnknown line f ⊎ StopsIn line f
  LineFault line (LeftOver b) = (i : ℕ) × (vs : List Value) × GoesOn line b i vs

  abbrev pub LineAnswers : (line : List ℕ) → Result (ℕ × List Value) CallFault → Type 0
  LineAnswers line (Ok x) = IsOfKind kinds x.0 x.1 × (line ≡ kind_text kinds x.0 x.1)
  LineAnswers line (Err f) = LineFault line f

  -- The text begins with the line of a kind with its values, and the next line behind its line feed.
  pub record IsKindLine (text : List ℕ) (i : ℕ) (vs : List Value) (next : ℕ) : Type 0 where
    pub of_kind : IsOfKind kinds i vs
    pub within : length (kind_text kinds i vs) < line_window
    pub text_is : text ≡ kind_text kinds i vs ++ feed ∷ drop next text
    pub ends : next ≡ length (kind_text kinds i vs) + 1

  -- The text begins with a line that has this fault, and the next line begins behind its line feed.
  pub record IsFaulty (text : List ℕ) (f : CallFault) (next : ℕ) : Type 0 where
    pub line : List ℕ
    pub begins : Begins line_window text line
    pub ends : next ≡ length line + 1
    pub faulty : LineFault line f

  -- No line feed is in reach, and the text is at its end.
  pub record IsEndless (text : List ℕ) (f : CallFault) (next : ℕ) : Type 0 where
    pub none : HasNoFeed line_window text
    pub ends : next ≡ length text
    pub is_fault : f ≡ ValueOf (Text (NoLineFeed 0))

  abbrev pub KindLineAnswers : (text : List ℕ) → (next : ℕ) → Result (ℕ × List Value) CallFault → Type 0
  KindLineAnswers text next (Ok x) = IsKindLine text x.0 x.1 next
  KindLineAnswers text next (Err f) = IsFaulty text f next ⊎ IsEndless text f next

-- Every byte of a word is above the space, and the fields can be told apart.
unfoldable pub are_kinds : List PlainCallKind → Bool
are_kinds [] = true
are_kinds (k ∷ kinds) = (is_plain k.word && is_described Fields k.fields) && are_kinds kinds

-- The kinds of a table can be told apart: their words differ.
unfoldable pub is_table : List PlainCallKind → Bool
is_table kinds = are_kinds kinds && all_differ (map (λ k. k.word) kinds)

-- A text has one answer at most.
unfoldable pub HasOneAnswer : List PlainCallKind → (text : List ℕ) → Type 0
HasOneAnswer kinds text =
    is_table kinds ≡ true → (r s : Result (ℕ × List Value) CallFault) (m n : ℕ) → KindLineAnswers kinds text m r → KindLineAnswers kinds text n s → (r ≡ s) × (m ≡ n)

-- A line within the window is taken exactly where it is that of a kind with values that its fields may have.
unfoldable pub TakenExactly : List PlainCallKind → (text : List ℕ) → Type 0
TakenExactly kinds text =
    is_table kinds ≡ true → (i : ℕ) (vs : List Value) (rest : List ℕ) (r : Result (ℕ × List Value) CallFault) (next : ℕ)
    → IsOfKind kinds i vs → length (kind_text kinds i vs) < line_window → text ≡ kind_text kinds i vs ++ feed ∷ rest → KindLineAnswers kinds text next r → r ≡ Ok (i, vs)

-- No text begins with the lines of two kinds, or of one with two lists of values.
unfoldable pub HasOneLine : List PlainCallKind → Type 0
HasOneLine kinds =
    is_table kinds ≡ true → (i j : ℕ) (us vs : List Value) (x y : List ℕ) → IsOfKind kinds i us → IsOfKind kinds j vs
    → kind_text kinds i us ++ feed ∷ x ≡ kind_text kinds j vs ++ feed ∷ y → (i ≡ j) × (us ≡ vs)

-- The next line begins within the text, and behind its first byte if there is one.
abbrev pub GoesForward : (text : List ℕ) → (next : ℕ) → Type 0
GoesForward text next = (next ≤ length text) × (0 < length text → 0 < next)
