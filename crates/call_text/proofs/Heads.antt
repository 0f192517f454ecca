-- The first field of a line, and the kind of a table that it names.
use Rattle.std.proofs.Common.{◌≡◌, ℕ, ◌<◌, ◌≤◌, List, [], ◌∷◌, ◌++◌, length, get_or, take, codes, Some, None, bytes_eq, position, sym, ap, ◌∙◌, subst, arith}
use Rattle.std.specs.List.{position_or_len}
use Rattle.std.proofs.lemmas.Bool.Decides.{nat_tests, not_from_Decides}
use Rattle.std.proofs.lemmas.List.{get_or-map, length-map}
use Rattle.std.proofs.lemmas.List.Quantifiers.{position-Some}
use Rattle.std.proofs.lemmas.List.Sums.{fails_before_first}
use Rattle.std.proofs.lemmas.Slice.Eq.{bytes_eq-Decides}
use Rattle.descriptions.specs.Keys.{equals, HasKey}
use Rattle.descriptions.specs.Layouts.{WordAt}
use Rattle.descriptions.specs.Rows.{plain_rows}
use Rattle.descriptions.proofs.Parts.{one_field}
use Rattle.descriptions.proofs.RowTexts.{one_value}
use Rattle.call_text.specs.KindLines.{HeadAt}
use Rattle.call_text.specs.Kinds.{PlainCallKind, plain_kinds, no_kind, kind_at, head_text}
use Rattle.call_text.specs.declared.call_kind.CallKind.{CallKind}

module _ (line head : List ℕ) (next : ℕ) (here : WordAt line 0 head next) where
  -- a first field with another key names no kind
  pub other_key : ((value : List ℕ) → HasKey (codes "call") head value → ⊥) → (k : PlainCallKind) (at : ℕ) → HeadAt line k at → ⊥
  other_key none k at front = none k.word (one_field line 0 head (head_text k) next at here front).0

  module _ (word : List ℕ) (has : HasKey (codes "call") head word) where
    -- a kind that the first field names has the word behind its key
    pub named_word : (k : PlainCallKind) (at : ℕ) → HeadAt line k at → word ≡ k.word
    named_word k at front = one_value (codes "call") head word k.word has (one_field line 0 head (head_text k) next at here front).0

    -- a kind that has this word is named
    pub names : (k : PlainCallKind) → word ≡ k.word → HeadAt line k next
    names k is = subst (λ (part : List ℕ). WordAt line 0 part next) (has ∙ ap (λ (w : List ℕ). codes "call" ++ equals ∷ w) is) here

-- a kind, apart from where it lies in memory
abbrev pub plain_kind : (count : ℕ) → CallKind → PlainCallKind
plain_kind count k = record { word = k.word.now; fields = take count (plain_rows k.fields.now); range_number = k.range_number }

-- what is read in memory behind the last kind
abbrev pub past_kinds : CallKind
past_kinds = record { word = record { ref_ptr = (0, 0); now = [] }; fields = record { ref_ptr = (0, 0); now = [] }; range_number = 0 }

-- the kind with this number in memory
abbrev pub kind_in : List CallKind → ℕ → CallKind
kind_in kinds i = get_or kinds i past_kinds

-- the table has that kind under the same number
pub kind_is : (count : ℕ) (kinds : List CallKind) (i : ℕ) → i < length kinds → kind_at (plain_kinds count kinds) i ≡ plain_kind count (kind_in kinds i)
kind_is count kinds i h = get_or-map (plain_kind count) kinds i past_kinds no_kind h

word_is : (count : ℕ) (kinds : List CallKind) (i : ℕ) → i < length kinds → (kind_at (plain_kinds count kinds) i).word ≡ (kind_in kinds i).word.now
word_is count kinds i h = ap (λ (k : PlainCallKind). k.word) (kind_is count kinds i h)

-- the table has as many kinds
pub kind_count : (count : ℕ) (kinds : List CallKind) → length (plain_kinds count kinds) ≡ length kinds
kind_count count kinds = length-map kinds (plain_kind count)

-- a search for a word finds a kind that has it
pub kind_found : (count : ℕ) (word : List ℕ) (kinds : List CallKind) (i : ℕ) → Some i ≡ position (λ k. bytes_eq k.word.now word) kinds
    → (i < length (plain_kinds count kinds)) × (word ≡ (kind_at (plain_kinds count kinds) i).word)
kind_found count word kinds i e =
    let p = position-Some (λ k. bytes_eq k.word.now word) kinds i past_kinds (sym e) in
    let same = (bytes_eq-Decides (kind_in kinds i).word.now word).0 p.1 in
    (omega (arith, p.0, kind_count count kinds), sym (word_is count kinds i p.0 ∙ same))

-- where a search for a word finds none, no kind has it
pub no_kind_found : (count : ℕ) (word : List ℕ) (kinds : List CallKind) → None ≡ position (λ k. bytes_eq k.word.now word) kinds
    → (i : ℕ) → i < length (plain_kinds count kinds) → word ≡ (kind_at (plain_kinds count kinds) i).word → ⊥
no_kind_found count word kinds e i h is =
    let test = λ (k : CallKind). bytes_eq k.word.now word in
    let here : List ℕ = (kind_in kinds i).word.now in
    let inside : i < length kinds = omega (arith, kind_count count kinds) in
    let last : length kinds ≤ position_or_len test kinds = grind (arith, nat_tests) in
    let fails = fails_before_first test kinds i past_kinds (omega arith) in
    not_from_Decides (bytes_eq here word) (bytes_eq-Decides here word) fails (sym (is ∙ word_is count kinds i inside))
