-- The kind found is the one that the first field names; without such a field the line names none.
use Rattle.std.proofs.Common.{◌≡◌, ℕ, ◌+◌, List, length, position, bytes_eq, codes, sym, ap, ◌∙◌, arith, rules, tests}
use Rattle.std.proofs.lemmas.Iterator.{YieldsList-from_slice}
use Rattle.std.proofs.lemmas.Iterator.Search.{position_from_yields_List}
use Rattle.std.proofs.lemmas.Option.{MatchOption-at_some, MatchOption-at_none}
use Rattle.std.proofs.lemmas.Result.{err_from_is_err_and}
use Rattle.descriptions.specs.Keys.{HasKey}
use Rattle.descriptions.specs.Layouts.{WordAt}
use Rattle.descriptions.specs.declared.faults.TextFault.TheVariants.{OtherKey}
use Rattle.descriptions.specs.declared.faults.ValueFault.TheVariants.{Text}
use Rattle.call_text.specs.Kinds.{plain_kinds, kind_at}
use Rattle.call_text.proofs.Heads.{other_key, named_word, names, kind_found, no_kind_found}
use Rattle.call_text.proofs.kind_reading.read_kind.Goals as goal
use Rattle.call_text.proofs.kind_reading.read_kind.Goals.{After-word-head, In_ok-word, After-position}

-- the first field stands at the front of the line
head_here : (c : After-word-head) → WordAt c.args.rest.now.text.now 0 c.word-head.result.bytes.now (length c.word-head.result.bytes.now)
head_here c =
    let size = length c.word-head.result.bytes.now in
    let end : c.word-head.result.byte + size ≡ size = omega (arith, c.word-head.ensures.byte, c.requires) in
    rw (← end, ← c.requires) c.word-head.ensures.word

keyed : (c : In_ok-word) → HasKey (codes "call") c.word-head.result.bytes.now c.in_ok-word.word.now
keyed c = MatchOption-at_some _ (λ v. HasKey (codes "call") c.word-head.result.bytes.now v.now) c.in_ok-word.word c.in_ok-word.ensures.ok_part c.value_behind.ensures.some

-- the kinds are searched for the first that has the word
searched : (c : After-position) → c.position.result ≡ position (λ k. bytes_eq k.word.now c.in_ok-word.word.now) c.args.kinds.now
searched c =
    position_from_yields_List (λ k. bytes_eq k.word.now c.in_ok-word.word.now) _ _ c.position.result c.position.ensures.ran (YieldsList-from_slice c.args.kinds.now c.iter.ensures.rest) (λ x b q k. search (rules, tests))

pub returns-in_err-word-clause-answers : goal.returns-in_err-word-clause-answers
returns-in_err-word-clause-answers c =
    let line = c.args.rest.now.text.now in
    let kinds = c.args.kinds.now in
    let head = c.word-head.result.bytes.now in
    let p = err_from_is_err_and c.from_residual.result c.from_residual.ensures.1 in
    let turned = rw c.in_err-word.ensures.ok_part at c.in_err-word.ensures.value in
    let fault : c.in_err-word.field-0.0 ≡ OtherKey 0 = cc in
    let here = head_here (goal.at.returns-in_err-word-clause-answers c).After-word-head in
    let none : (value : List ℕ) → HasKey (codes "call") head value → ⊥ = MatchOption-at_none _ _ c.in_err-word.ensures.ok_part c.value_behind.ensures.none in
    λ count. rw (p.1, p.2) (ap Text fault, λ i at h. other_key line head (length head) here none (kind_at (plain_kinds count kinds) i) at)

pub returns-in_err-kind-clause-answers : goal.returns-in_err-kind-clause-answers
returns-in_err-kind-clause-answers c =
    let line = c.args.rest.now.text.now in
    let kinds = c.args.kinds.now in
    let head = c.word-head.result.bytes.now in
    let word = c.in_ok-word.word.now in
    let before = goal.at.returns-in_err-kind-clause-answers c in
    let p = err_from_is_err_and c.from_residual-in_err-kind.result c.from_residual-in_err-kind.ensures.1 in
    let turned = rw c.in_err-kind.ensures.ok_part at c.in_err-kind.ensures.value in
    let fault : c.in_err-kind.field-0.0 ≡ OtherKey 0 = cc in
    let here = head_here before.After-word-head in
    let has = keyed before.In_ok-word in
    let none = sym c.in_err-kind.ensures.ok_part ∙ searched before.After-position in
    λ count. rw (p.1, p.2) (ap Text fault, λ i at h front. no_kind_found count word kinds none i h (named_word line head (length head) here word has (kind_at (plain_kinds count kinds) i) at front))

pub returns-clause-answers : goal.returns-clause-answers
returns-clause-answers c =
    let line = c.args.rest.now.text.now in
    let kinds = c.args.kinds.now in
    let head = c.word-head.result.bytes.now in
    let word = c.in_ok-word.word.now in
    let kind = c.in_ok-kind.kind in
    let before = goal.at.returns-clause-answers c in
    let here = head_here before.After-word-head in
    let has = keyed before.In_ok-word in
    let place = sym c.in_ok-kind.ensures.ok_part ∙ searched before.After-position in
    λ count. let found = kind_found count word kinds kind place in (found.0, names line head (length head) here word has (kind_at (plain_kinds count kinds) kind) found.1)
