-- Rows stand in a text exactly where the text of their values does.
use Rattle.std.proofs.Common.{◌≡◌, ℕ, ◌+◌, true, List, [], ◌∷◌, ◌++◌, length, drop, sym, refl, ap, ◌∙◌, subst, append_assoc, arith, length-append}
use Rattle.std.proofs.lemmas.Bool.{and_parts, and_from, false≢true}
use Rattle.descriptions.specs.Fitting.{fits, all_fit}
use Rattle.descriptions.specs.Laws.{MayFollow, TextStands, ReadIsText, is_described}
use Rattle.descriptions.specs.Layouts.{laid, rows_text}
use Rattle.descriptions.specs.Reading.{RowsStand}
use Rattle.descriptions.specs.Rows.{PlainRow, row_text}
use Rattle.descriptions.specs.declared.layout.Layout.{Layout}
use Rattle.descriptions.specs.declared.layout.Layout.TheVariants.{Lines, Fields}
use Rattle.descriptions.specs.declared.value.Value.{Value}
use Rattle.descriptions.proofs.Parts.{FrontAt, drop_behind, part_text, part_from_text}
use Rattle.descriptions.proofs.RowTexts.{described_row, row_high, row_within}
use Rattle.descriptions.proofs.ValueTexts.{formed}

pub text_from_stands : (l : Layout) (rs : List PlainRow) (vs : List Value) (text : List ℕ) (at next : ℕ) → RowsStand l rs vs text at next → TextStands l rs vs text at next
text_from_stands l [] [] text at next a = record { fit = refl; text_is = ap (λ (n : ℕ). drop n text) a; ends = omega arith }
text_from_stands l [] (v ∷ vs) text at next a = absurd a
text_from_stands l (r ∷ rs) [] text at next a = absurd a
text_from_stands l (r ∷ rs) (v ∷ vs) text at next a =
    let row : List ℕ = laid l (row_text r v) in
    let others : List ℕ = rows_text l rs vs in
    let front = part_text l text at (row_text r v) a.0 a.1.1 in
    let rest = text_from_stands l rs vs text a.0 next a.2 in
    record {
      fit = and_from (fits r.kind v) (all_fit rs vs) a.1.0 rest.fit;
      text_is = front.text_is ∙ (ap (λ (t : List ℕ). row ++ t) rest.text_is ∙ sym (append_assoc row others (drop next text)));
      ends = omega (arith, front.ends, rest.ends, length-append row others);
    }

pub read_is_text : (l : Layout) (rows : List PlainRow) (text : List ℕ) (at : ℕ) → ReadIsText l rows text at
unfolding ReadIsText
read_is_text l rows text at vs n next a = text_from_stands l rows vs text at next a

-- what stands behind a row may do so, whether it is another row or what stands behind the last one
pub rest_follows : (l : Layout) (rs : List PlainRow) (vs : List Value) (behind : List ℕ) → all_fit rs vs ≡ true → MayFollow l behind → MayFollow l (rows_text l rs vs ++ behind)
rest_follows (Lines window) rs vs behind fit may = tt
rest_follows Fields [] vs behind fit may = may
rest_follows Fields (r ∷ rs) [] behind fit may = absurd (false≢true fit)
rest_follows Fields (r ∷ rs) (v ∷ vs) behind fit may = refl

pub stands_from_text : (l : Layout) (rs : List PlainRow) (vs : List Value) (text : List ℕ) (at next : ℕ) → is_described l rs ≡ true → TextStands l rs vs text at next → MayFollow l (drop next text) → RowsStand l rs vs text at next
stands_from_text l [] [] text at next d t may = omega (arith, t.ends)
stands_from_text l [] (v ∷ vs) text at next d t may = absurd (false≢true t.fit)
stands_from_text l (r ∷ rs) [] text at next d t may = absurd (false≢true t.fit)
stands_from_text l (r ∷ rs) (v ∷ vs) text at next d t may =
    let row : List ℕ = laid l (row_text r v) in
    let others : List ℕ = rows_text l rs vs in
    let behind : ℕ = at + length row in
    let described = described_row l r rs d in
    let fit = and_parts (fits r.kind v) (all_fit rs vs) t.fit in
    let form = formed r.kind v fit.0 in
    let is : drop at text ≡ row ++ (others ++ drop next text) = t.text_is ∙ append_assoc row others (drop next text) in
    let rest : drop behind text ≡ others ++ drop next text = drop_behind text row (others ++ drop next text) at behind is refl in
    let front : FrontAt text at row behind = record { text_is = is ∙ ap (λ (u : List ℕ). row ++ u) (sym rest); ends = refl } in
    let follows : MayFollow l (drop behind text) = subst (MayFollow l) (sym rest) (rest_follows l rs vs (drop next text) fit.1 may) in
    let stands : TextStands l rs vs text behind next = record { fit = fit.1; text_is = rest; ends = omega (arith, t.ends, length-append row others) } in (
      behind,
      (fit.0, part_from_text l text at (row_text r v) behind (row_high l r described.0 v form) (row_within l r described.0 v form) front follows),
      stands_from_text l rs vs text behind next described.1 stands may,
    )
