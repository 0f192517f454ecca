-- Kinds of call: the word that names each, and the fields that are due behind it.
use Rattle.std.specs.Prelude.{ℕ, ◌<◌, true, List, [], ◌∷◌, ◌++◌, map, take, length, get_or, codes, ◌≡◌}
use Rattle.descriptions.specs.Fitting.{all_fit}
use Rattle.descriptions.specs.Keys.{equals}
use Rattle.descriptions.specs.Layouts.{rows_text}
use Rattle.descriptions.specs.Rows.{PlainRow, plain_rows}
use Rattle.descriptions.specs.declared.layout.Layout.TheVariants.{Fields}
use Rattle.descriptions.specs.declared.value.Value.{Value}
use Rattle.call_text.specs.declared.call_kind.CallKind.{CallKind}

-- A kind of call, apart from where it lies in memory, with the number that a value out of its range is refused with.
pub record PlainCallKind : Type 0 where
  pub word : List ℕ
  pub fields : List PlainRow
  pub range_number : ℕ

-- The kinds with as many fields as are read.
abbrev pub plain_kinds : (count : ℕ) → List CallKind → List PlainCallKind
plain_kinds count kinds = map (λ k. record { word = k.word.now; fields = take count (plain_rows k.fields.now); range_number = k.range_number }) kinds

-- What may stand in memory behind the last kind.
abbrev pub no_kind : PlainCallKind
no_kind = record { word = []; fields = []; range_number = 0 }

abbrev pub kind_at : List PlainCallKind → ℕ → PlainCallKind
kind_at kinds i = get_or kinds i no_kind

-- The first field, which names the call.
abbrev pub head_text : PlainCallKind → List ℕ
head_text k = codes "call" ++ equals ∷ k.word

-- A line without its line feed: the kind with this number in the table, and its fields with their values.
unfoldable pub kind_text : List PlainCallKind → (i : ℕ) → List Value → List ℕ
kind_text kinds i vs = head_text (kind_at kinds i) ++ rows_text Fields (kind_at kinds i).fields vs

-- The table has such a kind, and its fields may have these values.
abbrev pub IsOfKind : List PlainCallKind → (i : ℕ) → List Value → Type 0
IsOfKind kinds i vs = (i < length kinds) × (all_fit (kind_at kinds i).fields vs ≡ true)
