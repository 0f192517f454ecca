use Rattle.std.proofs.Common.{◌≡◌, position, bytes_eq, refl, sym, ◌∙◌, rules, tests}
use Rattle.std.proofs.lemmas.Iterator.{YieldsList-from_slice}
use Rattle.std.proofs.lemmas.Iterator.Search.{position_from_yields_List}
use Rattle.descriptions.proofs.Words.{word_found, no_word_form}
use Rattle.descriptions.proofs.row.ValueKind.field.Goals as goal
use Rattle.descriptions.proofs.row.ValueKind.field.Goals.{After-position}

-- the words are searched for the first that is the value
searched : (c : After-position) → c.position.result ≡ position (λ w. bytes_eq w.now c.args.value.bytes.now) c.in-Word.words.now
searched c =
    position_from_yields_List (λ w. bytes_eq w.now c.args.value.bytes.now) _ _ c.position.result c.position.ensures.ran (YieldsList-from_slice c.in-Word.words.now c.iter.ensures.rest) (λ x b q k. search (rules, tests))

pub returns-in_err-number-in-Word : goal.returns-in_err-number-in-Word
returns-in_err-number-in-Word c =
    let place = searched (goal.at.returns-in_err-number-in-Word c).After-position in
    rw (c.in-Word.is, c.from_residual.ensures) (no_word_form c.args.value.bytes.now c.in-Word.words.now (sym c.in_err-number-in-Word.was ∙ place))

pub returns-in_ok-number-in-Word : goal.returns-in_ok-number-in-Word
returns-in_ok-number-in-Word c =
    let place = searched (goal.at.returns-in_ok-number-in-Word c).After-position in
    let found = word_found c.args.value.bytes.now c.in-Word.words.now c.in_ok-number-in-Word.number (sym c.in_ok-number-in-Word.was ∙ place) in
    rw (c.in-Word.is) (found.0, found.1, refl, refl)
