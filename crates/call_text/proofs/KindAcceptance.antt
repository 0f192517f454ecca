-- A line is taken exactly where it is the text of a kind with its values. The next line begins behind it.
use Rattle.std.proofs.Common.{◌≡◌, ℕ, ◌+◌, ◌<◌, true, List, ◌∷◌, ◌++◌, length, drop, Ok, Err, Result, sym, refl, ap, ◌∙◌, inl, inr, arith, length-append}
use Rattle.descriptions.specs.Lines.{feed, Begins, HasNoFeed}
use Rattle.descriptions.specs.declared.value.Value.{Value}
use Rattle.descriptions.specs.declared.layout.Layout.TheVariants.{Lines}
use Rattle.descriptions.proofs.Parts.{no_part}
use Rattle.descriptions.proofs.Separators.{split_at}
use Rattle.call_text.specs.KindLines.{line_window, LineFault, KindLineAnswers, is_table, HasOneLine, TakenExactly, GoesForward}
use Rattle.call_text.specs.Kinds.{PlainCallKind, kind_text, IsOfKind}
use Rattle.call_text.specs.Reading.{TextFound, values_of}
use Rattle.call_text.specs.declared.call_fault.CallFault.{CallFault}
use Rattle.call_text.specs.declared.call_fault.CallFault.TheVariants.{Value as ValueOf, LeftOver}
use Rattle.call_text.specs.declared.kind_line.Found.{Found}
use Rattle.call_text.proofs.KindReadings.{one_reading, no_value_fault, whole_read, on_read}
use Rattle.call_text.proofs.KindTexts.{kind_without_feed}

pub one_line : (kinds : List PlainCallKind) → HasOneLine kinds
unfolding HasOneLine
one_line kinds table i j us vs x y a b e =
    let line = kind_text kinds i us in
    let other = kind_text kinds j vs in
    let cut = split_at feed line other x y (kind_without_feed kinds table i us a) (kind_without_feed kinds table j vs b) e in
    let same = one_reading kinds table line i j (Ok us) (Ok vs) (length line) (length other) (whole_read kinds table line i us a refl) (whole_read kinds table line j vs b cut.0) in
    (same.0, cc)

-- a text that begins with a line has a line feed, and begins with no other line

pub one_begun : (text p q : List ℕ) → Begins line_window text p → Begins line_window text q → p ≡ q
one_begun text p q a b = (split_at feed p q a.behind.0 b.behind.0 a.none_before b.none_before (sym a.behind.1 ∙ b.behind.1)).0

pub not_endless : (text line : List ℕ) → Begins line_window text line → HasNoFeed line_window text → ⊥
not_endless text line a none = no_part (Lines line_window) text 0 line (length line + 1) (a, omega arith) none

module _ (kinds : List PlainCallKind) (table : is_table kinds ≡ true) where
  -- the line of a kind with its values has no fault
  never_faulty : (line : List ℕ) (i : ℕ) (vs : List Value) (f : CallFault) → IsOfKind kinds i vs → line ≡ kind_text kinds i vs → LineFault kinds line f → ⊥
  never_faulty line i vs (ValueOf f) of is fault = no_value_fault kinds table line i vs (length (kind_text kinds i vs)) f (whole_read kinds table line i vs of is) fault
  never_faulty line i vs (LeftOver b) of is fault =
      let on = fault.2 in
      let same = one_reading kinds table line i fault.0 (Ok vs) (Ok fault.1) (length (kind_text kinds i vs)) b (whole_read kinds table line i vs of is) (on_read kinds table line b fault.0 fault.1 on) in
      omega (arith, same.2, on.more, ap length is)

  pub kind_begins : (text : List ℕ) (i : ℕ) (vs : List Value) (rest : List ℕ) → IsOfKind kinds i vs → length (kind_text kinds i vs) < line_window
      → text ≡ kind_text kinds i vs ++ feed ∷ rest → Begins line_window text (kind_text kinds i vs)
  kind_begins text i vs rest of short is = record { behind = (rest, is); none_before = kind_without_feed kinds table i vs of; within = short }

pub taken_exactly : (kinds : List PlainCallKind) (text : List ℕ) → TakenExactly kinds text
unfolding TakenExactly HasOneLine
taken_exactly kinds text table i vs rest (Ok (j, us)) next of short is a =
    let same = one_line kinds table j i us vs (drop next text) rest a.of_kind of (sym a.text_is ∙ is) in
    ap (λ (k : ℕ). Ok (k, us)) same.0 ∙ ap (λ (ws : List Value). Ok (i, ws)) same.1
taken_exactly kinds text table i vs rest (Err f) next of short is (inl a) =
    absurd (never_faulty kinds table a.line i vs f of (one_begun text a.line (kind_text kinds i vs) a.begins (kind_begins kinds table text i vs rest of short is)) a.faulty)
taken_exactly kinds text table i vs rest (Err f) next of short is (inr a) =
    absurd (not_endless text (kind_text kinds i vs) (kind_begins kinds table text i vs rest of short is) a.none)

-- behind the line feed of the first line, or at the end of the text

behind_feed : (text line rest : List ℕ) (next : ℕ) → text ≡ line ++ feed ∷ rest → next ≡ length line + 1 → GoesForward text next
behind_feed text line rest next is ends = (omega (arith, ap length is, length-append line (feed ∷ rest)), λ some. omega arith)

pub goes_forward : (kinds : List PlainCallKind) (text : List ℕ) (next : ℕ) (r : Result (ℕ × List Value) CallFault) → KindLineAnswers kinds text next r → GoesForward text next
goes_forward kinds text next (Ok (i, vs)) a = behind_feed text (kind_text kinds i vs) (drop next text) next a.text_is a.ends
goes_forward kinds text next (Err f) (inl a) = behind_feed text a.line a.begins.behind.0 next a.begins.behind.1 a.ends
goes_forward kinds text next (Err f) (inr a) = (omega (arith, a.ends), λ some. omega (arith, a.ends))

pub found_goes_forward : {count : ℕ} (kinds : List PlainCallKind) (text : List ℕ) (next : ℕ) (r : Result (Found count) CallFault) → TextFound kinds text next r → GoesForward text next
found_goes_forward kinds text next (Ok f) a = goes_forward kinds text next (Ok (values_of kinds f)) a.0
found_goes_forward kinds text next (Err e) a = goes_forward kinds text next (Err e) a
