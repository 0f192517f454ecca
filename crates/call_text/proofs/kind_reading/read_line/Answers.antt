-- The line names a kind, whose fields are read, and it ends or goes on behind them; or there is the first fault.
use Rattle.std.proofs.Common.{◌≡◌, ℕ, ◌<◌, List, length, take, Bor, Ok, ◌∙◌, subst, inl, inr, arith}
use Rattle.std.proofs.lemmas.Result.{err_from_is_err_and}
use Rattle.descriptions.specs.Lines.{EndAsked}
use Rattle.descriptions.specs.Reading.{RowsStop}
use Rattle.descriptions.specs.Rows.{plain_rows}
use Rattle.descriptions.specs.declared.layout.Layout.TheVariants.{Fields}
use Rattle.call_text.specs.Kinds.{plain_kinds, kind_at}
use Rattle.call_text.specs.Reading.{KindAnswers}
use Rattle.call_text.proofs.FaultTurning.{ok_before, err_before}
use Rattle.call_text.proofs.Heads.{kind_in, kind_count}
use Rattle.call_text.proofs.LineFinding.{RowsRead, LineBegins, line_begins, memory_behind, whole_line, goes_on, fields_stop}
use Rattle.call_text.proofs.kind_reading.read_line.Given.{Over}
use Rattle.call_text.proofs.kind_reading.read_line.Goals as goal
use Rattle.call_text.proofs.kind_reading.read_line.Goals.{In_ok-kind, In_ok-values, After-ends}

-- the kind that the line names
kind_read : (g : Over) (c : In_ok-kind g) → KindAnswers (plain_kinds g.row.N c.args.kinds.now) c.args.line.now c.read_kind.new.rest.at (Ok c.in_ok-kind.kind)
kind_read g c = c.in_ok-kind.ensures.answers g.row.N

within : (g : Over) (c : In_ok-kind g) → c.in_ok-kind.kind < length c.args.kinds.now
within g c = omega (arith, (kind_read g c).0, kind_count g.row.N c.args.kinds.now)

-- the fields of that kind stand behind its name
fields_read : (g : Over) (c : In_ok-values g)
    → RowsRead (kind_in c.args.kinds.now c.in_ok-kind.kind).fields.now g.row.N c.in_ok-values.values c.args.line.now c.read_kind.new.rest.at c.read.new.rest.at
fields_read g c =
    let rows = (kind_in c.args.kinds.now c.in_ok-kind.kind).fields.now in
    let values = c.in_ok-values.values in
    subst (λ (t : Bor (List ℕ)). RowsRead rows g.row.N values t.now c.read_kind.new.rest.at c.read.new.rest.at) c.read_kind.ensures.same c.in_ok-values.ensures.answers.0

-- the line begins with that of the kind with the values that were read
begun : (g : Over) (c : In_ok-values g)
    → LineBegins (plain_kinds g.row.N c.args.kinds.now) c.args.line.now c.read.new.rest.at c.in_ok-kind.kind (take (length (kind_at (plain_kinds g.row.N c.args.kinds.now) c.in_ok-kind.kind).fields) c.in_ok-values.values)
begun g c =
    let before = (goal.at-In_ok-values g c).In_ok-kind in
    line_begins g.row.N c.args.kinds.now c.in_ok-kind.kind (within g before) c.in_ok-values.values c.args.line.now c.read_kind.new.rest.at c.read.new.rest.at (fields_read g c) (kind_read g before).1

-- it is asked whether the line ends behind the fields
asked : (g : Over) (c : After-ends g) → EndAsked c.args.line.now c.read.new.rest.at c.ends.result
asked g c =
    let same : c.read.new.rest.text ≡ c.args.line = c.in_ok-values.ensures.same ∙ c.read_kind.ensures.same in
    subst (λ (t : Bor (List ℕ)). EndAsked t.now c.read.new.rest.at c.ends.result) same c.ends.ensures

pub returns-in_err-kind : goal.returns-in_err-kind
returns-in_err-kind g c =
    let p = err_from_is_err_and c.from_residual.result c.from_residual.ensures.1 in
    rw (p.1, p.2) (inl (c.in_err-kind.ensures.answers g.row.N))

pub offset_bounds-kinds-kind : goal.offset_bounds-kinds-kind
offset_bounds-kinds-kind g c = omega (arith, within g c, c.well_formed.0)

pub bounds-kinds-kind : goal.bounds-kinds-kind
bounds-kinds-kind g c = within g (goal.at.bounds-kinds-kind g c).In_ok-kind

pub returns-in_err-values : goal.returns-in_err-values
returns-in_err-values g c =
    let kinds = c.args.kinds.now in
    let kind = c.in_ok-kind.kind in
    let rows = take g.row.N (plain_rows (kind_in kinds kind).fields.now) in
    let at = c.read_kind.new.rest.at in
    let fault = c.in_err-values.field-0.0 in
    let before = (goal.at.returns-in_err-values g c).In_ok-kind in
    let p = err_from_is_err_and c.from_residual-in_err-values.result c.from_residual-in_err-values.ensures.1 in
    let stop = subst (λ (t : Bor (List ℕ)). RowsStop Fields (kind_in kinds kind).range_number rows t.now at fault) c.read_kind.ensures.same c.in_err-values.ensures.answers.0 in
    let named = kind_read g before in
    rw (p.1, p.2) (inr (kind, at, named.0, named.1, fields_stop g.row.N kinds kind (within g before) c.args.line.now at fault stop))

pub returns-in_err-map_err : goal.returns-in_err-map_err
returns-in_err-map_err g c =
    let kinds = plain_kinds g.row.N c.args.kinds.now in
    let kind = c.in_ok-kind.kind in
    let values = take (length (kind_at kinds kind).fields) c.in_ok-values.values in
    let end = c.read.new.rest.at in
    let before = goal.at.returns-in_err-map_err g c in
    let p = err_from_is_err_and c.from_residual-in_err-map_err.result c.from_residual-in_err-map_err.ensures.1 in
    let was = err_before c.ends.result c.map_err.result _ c.in_err-map_err.field-0.0 c.map_err.ensures.cases c.in_err-map_err.was in
    let more = subst (EndAsked c.args.line.now end) was.1 (asked g before.After-ends) in
    rw (p.1, p.2, was.2, more.0) (kind, values, goes_on kinds c.args.line.now end kind values (begun g before.In_ok-values) more.1)

pub returns : goal.returns
returns g c =
    let kinds = plain_kinds g.row.N c.args.kinds.now in
    let kind = c.in_ok-kind.kind in
    let values = take (length (kind_at kinds kind).fields) c.in_ok-values.values in
    let at = c.read_kind.new.rest.at in
    let end = c.read.new.rest.at in
    let before = goal.at.returns g c in
    let here = begun g before.In_ok-values in
    let is = ok_before c.ends.result c.map_err.result _ c.in_ok-map_err.field-0 c.map_err.ensures.cases c.in_ok-map_err.was in
    let over = subst (EndAsked c.args.line.now end) is (asked g before.After-ends) in
    let blank = memory_behind g.row.N c.args.kinds.now kind (within g before.In_ok-kind) c.in_ok-values.values c.args.line.now at end (fields_read g before.In_ok-values) c.in_ok-values.ensures.answers.1 in
    ((here.of_kind, whole_line kinds c.args.line.now end kind values here over), blank)
