use Rattle.std.proofs.Common.{ℕ, length, refl, subst, Bor, List, rules}
use Rattle.std.proofs.lemmas.Iterator.{YieldsList-from_slice, YieldsList-from_take}
use Rattle.std.proofs.lemmas.Iterator.Consumers.{YieldsList-from_enumerate, YieldsList-turn, YieldsList-end}
use Rattle.std.proofs.lemmas.List.{length_push}
use Rattle.std.proofs.lemmas.Result.{err_from_is_err_and}
use Rattle.descriptions.specs.Reading.{rows_read, RowFault, RowStands}
use Rattle.descriptions.specs.Rows.{plain_row}
use Rattle.descriptions.proofs.ReadingProgress.{IsDue, begin, step, stop, due, finish}
use Rattle.descriptions.proofs.description.Description.read_rows.Given.{Over}
use Rattle.descriptions.proofs.description.Description.read_rows.Goals as goal
use Rattle.descriptions.proofs.description.Description.read_rows.Goals.{In-Some}

-- the row of a turn is the one that is due
this_row : (g : Over) (c : In-Some g) → IsDue c.args.self.now.rows.now g.row.N (length c.loop-index.yielded) c.in-Some.index c.in-Some.row.now
this_row g c =
    let rows = c.args.self.now.rows.now in
    let counted = YieldsList-from_enumerate {s = c.into_iter-index-iterator.result} (YieldsList-from_take g.row.N (YieldsList-from_slice rows (search rules)) (search rules)) (search rules) in
    due rows g.row.N (length c.loop-index.yielded) c.in-Some.index c.in-Some.row.now
    (YieldsList-turn counted c.loop-index.yielded c.loop-index.index-iterator c.loop-index.yielded_by c.next.result c.next.new.self (c.in-Some.index, c.in-Some.row) c.in-Some.is c.next.ensures.steps)

pub loop-index-init : goal.loop-index-init
loop-index-init g c = let d = c.args.self.now in (begin d.layout (rows_read d g.row.N) g.row.N c.args.rest.now.text.now c.args.rest.now.at, refl)

pub returns-in_err-value-clause-answers : goal.returns-in_err-value-clause-answers
returns-in_err-value-clause-answers g c =
    let d = c.args.self.now in
    let text = c.args.rest.now.text.now in
    let i = length c.loop-index.yielded in
    let row = plain_row c.in-Some.row.now in
    let fault = c.in_err-value.field-0.0 in
    let this = this_row g (goal.at.returns-in_err-value-clause-answers g c).In-Some in
    let faulty = subst (λ (t : Bor (List ℕ)). RowFault d.layout d.range_number row t.now c.loop-index.here.at fault) c.loop-index.invariant.1 c.in_err-value.ensures in
    let stops = stop d.layout d.range_number (rows_read d g.row.N) g.row.N text c.args.rest.now.at i c.loop-index.here.at c.loop-index.values row fault c.loop-index.invariant.0 this.inside this.is faulty in
    let p = err_from_is_err_and c.from_residual.result c.from_residual.ensures.1 in
    rw (p.1, p.2) (stops, refl)

pub loop-index-preserved : goal.loop-index-preserved
loop-index-preserved g c =
    let d = c.args.self.now in
    let text = c.args.rest.now.text.now in
    let i = length c.loop-index.yielded in
    let row = plain_row c.in-Some.row.now in
    let value = c.in_ok-value.value in
    let this = this_row g (goal.at.loop-index-preserved g c).In-Some in
    let stands = subst (λ (t : Bor (List ℕ)). RowStands d.layout row value t.now c.loop-index.here.at c.in_ok-value.next) c.loop-index.invariant.1 c.in_ok-value.ensures in
    let more = step d.layout (rows_read d g.row.N) g.row.N text c.args.rest.now.at i c.loop-index.here.at c.in_ok-value.next c.loop-index.values row value c.loop-index.invariant.0 this.inside this.counted this.is stands in
    (rw (length_push, this.place) more, c.loop-index.invariant.1)

pub returns-clause-answers : goal.returns-clause-answers
returns-clause-answers g c =
    let d = c.args.self.now in
    let counted = YieldsList-from_enumerate {s = c.into_iter-index-iterator.result} (YieldsList-from_take g.row.N (YieldsList-from_slice d.rows.now (search rules)) (search rules)) (search rules) in
    let end = YieldsList-end counted c.loop-index.yielded c.loop-index.index-iterator c.loop-index.yielded_by c.next.result c.next.new.self c.in-None.is c.next.ensures.steps in
    finish d.layout d.rows.now g.row.N c.args.rest.now.text.now c.args.rest.now.at (length c.loop-index.yielded) c.loop-index.here.at c.loop-index.values c.loop-index.invariant.0 end.1
