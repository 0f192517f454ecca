-- Where the text of values stands, as it does where they were written, those values are read.
use Rattle.std.proofs.Common.{◌≡◌, ℕ, List, ◌++◌, length, take, drop, Ok, sym, ap, ◌∙◌, arith}
use Rattle.std.proofs.lemmas.List.{drop_at, length-take-le}
use Rattle.descriptions.specs.Laws.{TextStands, OneAnswer, TakenExactly, WrittenIsRead}
use Rattle.descriptions.specs.Rows.{PlainRow, plain_rows}
use Rattle.descriptions.specs.Writing.{Put}
use Rattle.descriptions.specs.declared.description.Description.{Description}
use Rattle.descriptions.specs.declared.layout.Layout.{Layout}
use Rattle.descriptions.proofs.OneAnswer.{one_answer}
use Rattle.descriptions.proofs.Parts.{FrontAt, drop_behind}
use Rattle.descriptions.proofs.TextStanding.{stands_from_text}

pub taken_exactly : (l : Layout) (n : ℕ) (rows : List PlainRow) (text : List ℕ) (at : ℕ) → TakenExactly l n rows text at
unfolding TakenExactly OneAnswer
taken_exactly l n rows text at d vs end next r stands may answer = one_answer l n rows text at d r (Ok vs) next end answer (stands_from_text l rows vs text at end d stands may)

-- the text that was put into memory stands there
put_stands : (before : List ℕ) (at : ℕ) (text after : List ℕ) (end : ℕ) → Put before at text after end → FrontAt after at text end
put_stands before at text after end p =
    let front : length (take at before) ≡ at = length-take-le at before (omega (arith, p.ends, p.fits)) in
    let here : drop at after ≡ text ++ drop end before = ap (drop at) p.bytes ∙ drop_at (take at before) (text ++ drop end before) at front in
    let behind : drop end after ≡ drop end before = drop_behind after text (drop end before) at end here p.ends in
    record { text_is = here ∙ ap (λ (t : List ℕ). text ++ t) (sym behind); ends = p.ends }

pub written_is_read : (d : Description) → WrittenIsRead d
unfolding WrittenIsRead TakenExactly
written_is_read d described vs before after at end next r written may answer =
    let put = put_stands before at _ after end written.1 in
    let stands : TextStands d.layout (plain_rows d.rows.now) vs after at end = record { fit = written.0; text_is = put.text_is; ends = put.ends } in
    taken_exactly d.layout d.range_number (plain_rows d.rows.now) after at described vs end next r stands may answer
