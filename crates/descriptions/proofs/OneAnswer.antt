-- A text has one answer at most: only one question is the first with a no.
use Rattle.std.proofs.Common.{◌≡◌, ℕ, true, List, [], ◌∷◌, Ok, Err, sym, refl, ap, ◌∙◌, subst, inl, inr}
use Rattle.std.proofs.lemmas.Bool.{both_ways}
use Rattle.descriptions.specs.Fitting.{fits}
use Rattle.descriptions.specs.Laws.{OneAnswer, is_described}
use Rattle.descriptions.specs.Layouts.{line_byte, row_byte}
use Rattle.descriptions.specs.Reading.{PartAnswers, RowStands, RowFault, RowsStand, RowsStop}
use Rattle.descriptions.specs.Rows.{PlainRow, value_text, row_text}
use Rattle.descriptions.specs.declared.faults.TextFault.{TextFault}
use Rattle.descriptions.specs.declared.faults.TextFault.TheVariants.{NoLineFeed, OtherKey, BadForm}
use Rattle.descriptions.specs.declared.faults.ValueFault.{ValueFault}
use Rattle.descriptions.specs.declared.faults.ValueFault.TheVariants.{Text, OutOfRange}
use Rattle.descriptions.specs.declared.layout.Layout.{Layout}
use Rattle.descriptions.specs.declared.value.Value.{Value}
use Rattle.descriptions.proofs.Parts.{one_part, no_part}
use Rattle.descriptions.proofs.RowTexts.{IsDescribed, described_row, one_value, same_row}
use Rattle.descriptions.proofs.ValueTexts.{formed}

module _ (l : Layout) (r : PlainRow) (d : IsDescribed l r) (range_number : ℕ) (part : List ℕ) (line byte : ℕ) where
  -- a part that is the text of a value that fits has no fault
  no_fault : (v : Value) (f : ValueFault) → PartAnswers r range_number part line byte (Ok v) → PartAnswers r range_number part line byte (Err f) → ⊥
  no_fault v (Text (NoLineFeed b)) a fault = fault
  no_fault v (Text (OtherKey b)) a fault = fault.1 (value_text r.kind v) a.1
  no_fault v (Text (BadForm b)) a fault =
      let keyed = fault.1 in
      keyed.2 (v, formed r.kind v a.0, one_value r.key part keyed.0 (value_text r.kind v) keyed.1 a.1)
  no_fault v (OutOfRange m b) a fault =
      let other = fault.2 in
      let same : v ≡ other.0 = same_row l r d v (formed r.kind v a.0) other.0 other.1 (sym a.1 ∙ other.3) in
      both_ways (fits r.kind v) (ap (fits r.kind) same ∙ other.2) a.0

  same_text_fault : (f g : TextFault) → PartAnswers r range_number part line byte (Err (Text f)) → PartAnswers r range_number part line byte (Err (Text g)) → f ≡ g
  same_text_fault (NoLineFeed b) g x y = absurd x
  same_text_fault (OtherKey b) (NoLineFeed c) x y = absurd y
  same_text_fault (OtherKey b) (OtherKey c) x y = ap OtherKey (x.0 ∙ sym y.0)
  same_text_fault (OtherKey b) (BadForm c) x y = absurd (x.1 y.1.0 y.1.1)
  same_text_fault (BadForm b) (NoLineFeed c) x y = absurd y
  same_text_fault (BadForm b) (OtherKey c) x y = absurd (y.1 x.1.0 x.1.1)
  same_text_fault (BadForm b) (BadForm c) x y = ap BadForm (x.0 ∙ sym y.0)

  -- a value that is out of its range is no fault of the text
  no_text_fault : (f : TextFault) (m b : ℕ) → PartAnswers r range_number part line byte (Err (Text f)) → PartAnswers r range_number part line byte (Err (OutOfRange m b)) → ⊥
  no_text_fault (NoLineFeed c) m b x y = x
  no_text_fault (OtherKey c) m b x y = x.1 (value_text r.kind y.2.0) y.2.3
  no_text_fault (BadForm c) m b x y =
      let keyed = x.1 in
      keyed.2 (y.2.0, y.2.1, one_value r.key part keyed.0 (value_text r.kind y.2.0) keyed.1 y.2.3)

  same_fault : (f g : ValueFault) → PartAnswers r range_number part line byte (Err f) → PartAnswers r range_number part line byte (Err g) → f ≡ g
  same_fault (Text f) (Text g) x y = ap Text (same_text_fault f g x y)
  same_fault (Text f) (OutOfRange m b) x y = absurd (no_text_fault f m b x y)
  same_fault (OutOfRange m b) (Text g) x y = absurd (no_text_fault g m b y x)
  same_fault (OutOfRange m b) (OutOfRange n c) x y = ap (λ (k : ℕ). OutOfRange k b) (x.0 ∙ sym y.0) ∙ ap (λ (k : ℕ). OutOfRange n k) (x.1 ∙ sym y.1)

module _ (l : Layout) (r : PlainRow) (d : IsDescribed l r) (range_number : ℕ) (text : List ℕ) (at : ℕ) where
  same_stand : (v w : Value) (m n : ℕ) → RowStands l r v text at m → RowStands l r w text at n → (v ≡ w) × (m ≡ n)
  same_stand v w m n a b =
      let same = one_part l text at (row_text r v) (row_text r w) m n a.1 b.1 in
      (same_row l r d v (formed r.kind v a.0) w (formed r.kind w b.0) same.0, same.1)

  -- a row that stands there has no fault
  never_faulty : (v : Value) (m : ℕ) (f : ValueFault) → RowStands l r v text at m → RowFault l range_number r text at f → ⊥
  never_faulty v m f a (inl none) = no_part l text at (row_text r v) m a.1 none.0
  never_faulty v m f a (inr fault) =
      let same = one_part l text at (row_text r v) fault.0 m fault.1 a.1 fault.2 in
      no_fault l r d range_number fault.0 (line_byte l at) (row_byte l at) v f (a.0, sym same.0) fault.3

  one_fault : (f g : ValueFault) → RowFault l range_number r text at f → RowFault l range_number r text at g → f ≡ g
  one_fault f g (inl x) (inl y) = x.1 ∙ sym y.1
  one_fault f g (inl x) (inr y) = absurd (no_part l text at y.0 y.1 y.2 x.0)
  one_fault f g (inr x) (inl y) = absurd (no_part l text at x.0 x.1 x.2 y.0)
  one_fault f g (inr x) (inr y) =
      let parts = one_part l text at x.0 y.0 x.1 y.1 x.2 y.2 in
      same_fault l r d range_number y.0 (line_byte l at) (row_byte l at) f g
      (subst (λ (p : List ℕ). PartAnswers r range_number p (line_byte l at) (row_byte l at) (Err f)) parts.0 x.3) y.3

module _ (l : Layout) (range_number : ℕ) (text : List ℕ) where
  same_values : (rs : List PlainRow) (vs ws : List Value) (at m n : ℕ) → is_described l rs ≡ true → RowsStand l rs vs text at m → RowsStand l rs ws text at n → (vs ≡ ws) × (m ≡ n)
  same_values [] [] [] at m n d a b = (refl, sym a ∙ b)
  same_values [] [] (w ∷ ws) at m n d a b = absurd b
  same_values [] (v ∷ vs) ws at m n d a b = absurd a
  same_values (r ∷ rs) [] ws at m n d a b = absurd a
  same_values (r ∷ rs) (v ∷ vs) [] at m n d a b = absurd b
  same_values (r ∷ rs) (v ∷ vs) (w ∷ ws) at m n d a b =
      let row = described_row l r rs d in
      let first = same_stand l r row.0 range_number text at v w a.0 b.0 a.1 b.1 in
      let rest = same_values rs vs ws b.0 m n row.1 (subst (λ (k : ℕ). RowsStand l rs vs text k m) first.1 a.2) b.2 in
      (ap (λ (x : Value). x ∷ vs) first.0 ∙ ap (λ (xs : List Value). w ∷ xs) rest.0, rest.1)

  -- where the rows stand, none has a fault
  never_stops : (rs : List PlainRow) (vs : List Value) (at m : ℕ) (f : ValueFault) → is_described l rs ≡ true → RowsStand l rs vs text at m → RowsStop l range_number rs text at f → ⊥
  never_stops [] vs at m f d a s = s
  never_stops (r ∷ rs) [] at m f d a s = a
  never_stops (r ∷ rs) (v ∷ vs) at m f d a (inl fault) = never_faulty l r (described_row l r rs d).0 range_number text at v a.0 f a.1 fault
  never_stops (r ∷ rs) (v ∷ vs) at m f d a (inr s) =
      let row = described_row l r rs d in
      let first = same_stand l r row.0 range_number text at v s.0 a.0 s.1 a.1 s.2 in
      never_stops rs vs s.1 m f row.1 (subst (λ (k : ℕ). RowsStand l rs vs text k m) first.1 a.2) s.3

  same_stop : (rs : List PlainRow) (at : ℕ) (f g : ValueFault) → is_described l rs ≡ true → RowsStop l range_number rs text at f → RowsStop l range_number rs text at g → f ≡ g
  same_stop [] at f g d x y = absurd x
  same_stop (r ∷ rs) at f g d (inl x) (inl y) = one_fault l r (described_row l r rs d).0 range_number text at f g x y
  same_stop (r ∷ rs) at f g d (inl x) (inr y) = absurd (never_faulty l r (described_row l r rs d).0 range_number text at y.0 y.1 f y.2 x)
  same_stop (r ∷ rs) at f g d (inr x) (inl y) = absurd (never_faulty l r (described_row l r rs d).0 range_number text at x.0 x.1 g x.2 y)
  same_stop (r ∷ rs) at f g d (inr x) (inr y) =
      let row = described_row l r rs d in
      let first = same_stand l r row.0 range_number text at x.0 y.0 x.1 y.1 x.2 y.2 in
      same_stop rs y.1 f g row.1 (subst (λ (k : ℕ). RowsStop l range_number rs text k f) first.1 x.3) y.3

pub one_answer : (l : Layout) (n : ℕ) (rows : List PlainRow) (text : List ℕ) (at : ℕ) → OneAnswer l n rows text at
unfolding OneAnswer
one_answer l n rows text at d (Ok vs) (Ok ws) i j a b =
    let same = same_values l n text rows vs ws at i j d a b in
    (ap Ok same.0, same.1)
one_answer l n rows text at d (Ok vs) (Err g) i j a b = absurd (never_stops l n text rows vs at i g d a b.0)
one_answer l n rows text at d (Err f) (Ok ws) i j a b = absurd (never_stops l n text rows ws at j f d b a.0)
one_answer l n rows text at d (Err f) (Err g) i j a b = (ap Err (same_stop l n text rows at f g d a.0 b.0), a.1 ∙ sym b.1)
