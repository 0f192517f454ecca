-- A line is read in one way by a table of kinds: its head names one kind, and the fields behind it have one answer.
use Rattle.std.proofs.Common.{◌≡◌, ℕ, ◌<◌, true, List, [], ◌∷◌, ◌++◌, length, drop, Ok, Err, Result, codes, sym, refl, ap, ◌∙◌, subst, inl, inr, append_assoc, arith, length-append}
use mathlib.Core.List.{append_cancel_left}
use Rattle.std.proofs.lemmas.List.{append-nil}
use Rattle.descriptions.specs.Keys.{equals}
use Rattle.descriptions.specs.Laws.{OneAnswer, TextStands}
use Rattle.descriptions.specs.Layouts.{space, IsParted, rows_text}
use Rattle.descriptions.specs.Reading.{RowsAnswer}
use Rattle.descriptions.specs.declared.faults.ValueFault.{ValueFault}
use Rattle.descriptions.specs.declared.layout.Layout.TheVariants.{Fields}
use Rattle.descriptions.specs.declared.value.Value.{Value}
use Rattle.descriptions.proofs.OneAnswer.{one_answer}
use Rattle.descriptions.proofs.Parts.{drop_behind}
use Rattle.descriptions.proofs.PlainBytes.{high_without}
use Rattle.descriptions.proofs.Separators.{split_parted}
use Rattle.descriptions.proofs.TextStanding.{rest_follows, stands_from_text}
use Rattle.call_text.specs.KindLines.{HeadAt, StopsIn, GoesOn, LineFault, is_table}
use Rattle.call_text.specs.Kinds.{PlainCallKind, kind_at, head_text, kind_text, IsOfKind}
use Rattle.call_text.specs.declared.call_fault.CallFault.TheVariants.{Value as ValueOf}
use Rattle.call_text.proofs.KindTexts.{described_kind, one_word, head_high}

-- the line begins with the name of a kind, and reading the fields behind it answers this, with this byte as the next one
pub record IsRead (kinds : List PlainCallKind) (line : List ℕ) (i : ℕ) (r : Result (List Value) ValueFault) (next : ℕ) : Type 0 where
  pub at : ℕ
  pub known : i < length kinds
  pub head : HeadAt line (kind_at kinds i) at
  pub answer : RowsAnswer Fields (kind_at kinds i).range_number (kind_at kinds i).fields line at next r

pub stop_read : (kinds : List PlainCallKind) (line : List ℕ) (f : ValueFault) (s : StopsIn kinds line f) → IsRead kinds line s.0 (Err f) s.1
stop_read kinds line f s = record { at = s.1; known = s.2; head = s.3; answer = (s.4, refl) }

values_or_fault : (vs : List Value) (f : ValueFault) → ◌≡◌ {A = Result (List Value) ValueFault} (Ok vs) (Err f) → ⊥
values_or_fault vs f e = absurd (cc)

module _ (kinds : List PlainCallKind) (table : is_table kinds ≡ true) where
  -- the head of a line names one kind, and ends at one byte
  one_head : (line : List ℕ) (i j m n : ℕ) → i < length kinds → j < length kinds → HeadAt line (kind_at kinds i) m → HeadAt line (kind_at kinds j) n → (i ≡ j) × (m ≡ n)
  one_head line i j m n hi hj a b =
      let first = kind_at kinds i in
      let second = kind_at kinds j in
      let heads = split_parted (head_text first) (head_text second) (drop m line) (drop n line) a.whole b.whole a.parted b.parted (sym a.text_is ∙ b.text_is) in
      let words : equals ∷ first.word ≡ equals ∷ second.word = append_cancel_left (codes "call") (equals ∷ first.word) (equals ∷ second.word) heads.0 in
      (one_word kinds table i j hi hj (cc), omega (arith, a.ends, b.ends, ap length heads.0))

  pub one_reading : (line : List ℕ) (i j : ℕ) (r s : Result (List Value) ValueFault) (m n : ℕ) → IsRead kinds line i r m → IsRead kinds line j s n → (i ≡ j) × (r ≡ s) × (m ≡ n)
  unfolding OneAnswer
  one_reading line i j r s m n a b =
      let head = one_head line i j a.at b.at a.known b.known a.head b.head in
      let here = subst (λ (at : ℕ). RowsAnswer Fields (kind_at kinds i).range_number (kind_at kinds i).fields line at m r) head.1 a.answer in
      let answer = subst (λ (k : ℕ). RowsAnswer Fields (kind_at kinds k).range_number (kind_at kinds k).fields line b.at m r) head.0 here in
      let rows = one_answer Fields (kind_at kinds j).range_number (kind_at kinds j).fields line b.at (described_kind kinds table j b.known).fields r s m n answer b.answer in
      (head.0, rows.0, rows.1)

  -- where the fields behind the name of a kind are read, no value has a fault
  pub no_value_fault : (line : List ℕ) (i : ℕ) (vs : List Value) (next : ℕ) (f : ValueFault) → IsRead kinds line i (Ok vs) next → LineFault kinds line (ValueOf f) → ⊥
  no_value_fault line i vs next f read (inl unknown) = unknown.1 i read.at read.known read.head
  no_value_fault line i vs next f read (inr stops) = values_or_fault vs f (one_reading line i stops.0 (Ok vs) (Err f) next stops.1 read (stop_read kinds line f stops)).1

  -- a line that begins with the text of a kind with its values is read as these
  module _ (line : List ℕ) (i : ℕ) (vs : List Value) (rest : List ℕ) (of : IsOfKind kinds i vs) (parted : IsParted rest) (is : line ≡ kind_text kinds i vs ++ rest) where
    rest_is : drop (length (kind_text kinds i vs)) line ≡ rest
    rest_is = drop_behind line (kind_text kinds i vs) rest 0 (length (kind_text kinds i vs)) is (omega arith)

    text_read : IsRead kinds line i (Ok vs) (length (kind_text kinds i vs))
    unfolding kind_text
    text_read =
        let fields = (kind_at kinds i).fields in
        let head = head_text (kind_at kinds i) in
        let values = rows_text Fields fields vs in
        let at = length head in
        let end = length (kind_text kinds i vs) in
        let described = (described_kind kinds table i of.0).fields in
        let text : line ≡ head ++ (values ++ rest) = is ∙ append_assoc head values rest in
        let behind : drop at line ≡ values ++ rest = drop_behind line head (values ++ rest) 0 at text (omega arith) in
        let stand : TextStands Fields fields vs line at end = record { fit = of.1; text_is = behind ∙ ap (λ (t : List ℕ). values ++ t) (sym rest_is); ends = length-append head values } in
        record {
          at = at;
          known = of.0;
          head = record {
            text_is = text ∙ ap (λ (t : List ℕ). head ++ t) (sym behind);
            whole = high_without space head (omega arith) (head_high kinds table i of.0);
            parted = subst IsParted (sym behind) (rest_follows Fields fields vs rest of.1 parted);
            ends = omega arith;
          };
          answer = stands_from_text Fields fields vs line at end described stand (subst IsParted (sym rest_is) parted);
        }

  pub whole_read : (line : List ℕ) (i : ℕ) (vs : List Value) → IsOfKind kinds i vs → line ≡ kind_text kinds i vs → IsRead kinds line i (Ok vs) (length (kind_text kinds i vs))
  whole_read line i vs of is = text_read line i vs [] of tt (is ∙ sym (append-nil (kind_text kinds i vs)))

  pub on_read : (line : List ℕ) (b i : ℕ) (vs : List Value) → GoesOn kinds line b i vs → IsRead kinds line i (Ok vs) b
  on_read line b i vs on = subst (IsRead kinds line i (Ok vs)) (sym on.ends) (text_read line i vs (drop b line) on.of_kind on.parted on.text_is)
