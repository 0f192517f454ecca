-- A text is taken exactly where it is the text of a sheet that can be admitted, and has one answer at most.
use Rattle.std.proofs.Common.{◌≡◌, ℕ, true, List, ◌++◌, length, drop, Ok, Err, Result, sym, refl, ap, ◌∙◌, append-nil, arith}
use Rattle.std.proofs.lemmas.Bool.{false≢true}
use Rattle.std.proofs.lemmas.List.{drop_all}
use Rattle.descriptions.proofs.OneAnswer.{one_answer}
use Rattle.descriptions.specs.Laws.{OneAnswer as OneOfRows}
use Rattle.descriptions.specs.Reading.{RowsAnswer}
use Rattle.descriptions.specs.declared.faults.ValueFault.{ValueFault}
use Rattle.descriptions.specs.declared.value.Value.{Value}
use Rattle.sheet.proofs.OneList.{one_list}
use Rattle.sheet.specs.Lines.{sheet_lines, list_of}
use Rattle.sheet.specs.Ranges.{in_ranges, brake_allowed}
use Rattle.sheet.specs.declared.draft.Draft.{Draft}
use Rattle.sheet.specs.declared.values.Values.{Values}
use Rattle.sheet_text.proofs.Fronts.{described, stand}
use Rattle.sheet_text.specs.Sheets.{sheet_layout, range_number, written_sheet, IsText, Fronts, Stops, FaultDue, SheetAnswers, IsTaken, OneSheet, OneAnswer}
use Rattle.sheet_text.specs.declared.faults.SheetFault.{SheetFault}
use Rattle.sheet_text.specs.declared.faults.SheetFault.TheVariants.{Value as OfValue, LeftOver, GoodsBrake}

-- two answers of the lines are the same
same_rows : (text : List ℕ) (r s : Result (List Value) ValueFault) (i j : ℕ) → RowsAnswer sheet_layout range_number sheet_lines text 0 i r → RowsAnswer sheet_layout range_number sheet_lines text 0 j s → (r ≡ s) × (i ≡ j)
unfolding OneOfRows
same_rows text r s i j a b = one_answer sheet_layout range_number sheet_lines text 0 described r s i j a b

-- a text begins with the text of one sheet at most
same_front : (text : List ℕ) (v w : Values) (i j : ℕ) → Fronts text v i → Fronts text w j → (v ≡ w) × (i ≡ j)
same_front text v w i j f g =
    let same = same_rows text (Ok (list_of v)) (Ok (list_of w)) i j (stand text v i f) (stand text w j g) in
    let lists : list_of v ≡ list_of w = cc in
    (one_list v w lists, same.1)

-- a text that begins with that of a sheet stops nowhere
never_stops : (text : List ℕ) (v : Values) (i : ℕ) (f : ValueFault) → Fronts text v i → Stops text f → ⊥
unfolding Stops
never_stops text v i f front stops =
    let same = same_rows text (Ok (list_of v)) (Err f) i 0 (stand text v i front) (stops, refl) in
    let z : ◌≡◌ {A = ℕ} 0 1 = cc in omega arith

same_stop : (text : List ℕ) (f g : ValueFault) → Stops text f → Stops text g → f ≡ g
unfolding Stops
same_stop text f g a b = let same = same_rows text (Err f) (Err g) 0 0 (a, refl) (b, refl) in cc

-- the text of a sheet begins with it and ends with it
whole : (text : List ℕ) (v : Values) → in_ranges v ≡ true → text ≡ written_sheet v → Fronts text v (length text)
whole text v ranged same = record {
  ranged = ranged;
  front = sym (append-nil text) ∙ (ap (λ (t : List ℕ). text ++ t) (sym (drop_all (length text) text (omega arith))) ∙ ap (λ (t : List ℕ). t ++ drop (length text) text) same);
  ends = ap length same;
}

pub one_sheet : (text : List ℕ) → OneSheet text
one_sheet text v w a b = (same_front text v w (length text) (length text) (whole text v a.ranged a.same) (whole text w b.ranged b.same)).0

-- the text of a sheet has no fault
never_faulty : (text : List ℕ) (v : Values) (f : SheetFault) → IsText text v → FaultDue text f → ⊥
never_faulty text v (OfValue f) is due = never_stops text v (length text) f (whole text v is.ranged is.same) due
never_faulty text v (LeftOver b) is due = due.2 (same_front text due.0 v b (length text) due.1 (whole text v is.ranged is.same)).1
never_faulty text v GoodsBrake is due =
    let same = (same_front text due.0 v (length text) (length text) (whole text due.0 due.1 due.2) (whole text v is.ranged is.same)).0 in
    false≢true (sym due.3 ∙ (ap (λ (w : Values). brake_allowed w.train w.brake) same ∙ is.allowed))

pub taken : (text : List ℕ) (r : Result Draft SheetFault) → SheetAnswers text r → (v : Values) → IsText text v → IsTaken v r
taken text (Ok d) a v is = one_sheet text d.values v a is
taken text (Err f) a v is = never_faulty text v f is a

same_fault : (text : List ℕ) (f g : SheetFault) → FaultDue text f → FaultDue text g → f ≡ g
same_fault text (OfValue f) (OfValue g) a b = ap OfValue (same_stop text f g a b)
same_fault text (OfValue f) (LeftOver c) a b = absurd (never_stops text b.0 c f b.1 a)
same_fault text (OfValue f) GoodsBrake a b = absurd (never_stops text b.0 (length text) f (whole text b.0 b.1 b.2) a)
same_fault text (LeftOver b) (OfValue g) a c = absurd (never_stops text a.0 b g a.1 c)
same_fault text (LeftOver b) (LeftOver c) a d = ap LeftOver (same_front text a.0 d.0 b c a.1 d.1).1
same_fault text (LeftOver b) GoodsBrake a c = absurd (a.2 (same_front text a.0 c.0 b (length text) a.1 (whole text c.0 c.1 c.2)).1)
same_fault text GoodsBrake (OfValue g) a b = absurd (never_stops text a.0 (length text) g (whole text a.0 a.1 a.2) b)
same_fault text GoodsBrake (LeftOver c) a b = absurd (b.2 (same_front text b.0 a.0 c (length text) b.1 (whole text a.0 a.1 a.2)).1)
same_fault text GoodsBrake GoodsBrake a b = refl

pub once : (text : List ℕ) → OneAnswer text
once text (Ok d) (Ok e) a b = let same : d.values ≡ e.values = one_sheet text d.values e.values a b in ap (λ (v : Values). Ok (record { values = v })) same
once text (Ok d) (Err g) a b = absurd (never_faulty text d.values g a b)
once text (Err f) (Ok e) a b = absurd (never_faulty text e.values f b a)
once text (Err f) (Err g) a b = ap Err (same_fault text f g a b)
