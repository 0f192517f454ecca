use Rattle.std.proofs.Common.{◌≡◌, ℕ, true, List, Some, Option, ap, ◌∙◌, subst, arith}
use Rattle.descriptions.specs.declared.value.Value.{Value}
use Rattle.sheet.specs.Lines.{list_of}
use Rattle.sheet.specs.Ranges.{admissible}
use Rattle.sheet.specs.declared.values.Values.{Values}
use Rattle.sheet_text.proofs.Described.{lines_written}
use Rattle.sheet_text.proofs.Written.{LinesWritten, is_written, stands, reads_back}
use Rattle.sheet_text.proofs.writing.write_sheet.Goals as goal

-- the values that are written are those of the sheet, which can be admitted
valid_of : (v w : Values) → w ≡ v → admissible w ≡ true → admissible v ≡ true
valid_of v w same valid = subst (λ (u : Values). admissible u ≡ true) same valid

of_sheet : (v w : Values) (list : List Value) (before after : List ℕ) (r : Option ℕ) → w ≡ v → list ≡ list_of w → LinesWritten list before after r → LinesWritten (list_of v) before after r
of_sheet v w list before after r same is written = subst (λ (vs : List Value). LinesWritten vs before after r) (is ∙ ap list_of same) written

pub unwrap-requires : goal.unwrap-requires
unwrap-requires c =
    let v = c.args.sheet.now.values in
    is_written v (valid_of v c.values.result c.values.ensures.same c.values.ensures.valid) c.args.out.now c.write.new.out (omega (arith, c.if-out-lt-ROOM.false)) c.write.result
    (of_sheet v c.values.result c.list.result c.args.out.now c.write.new.out c.write.result c.values.ensures.same c.list.ensures (lines_written c.description.result (record { rows = c.description.ensures.rows; layout = c.description.ensures.layout; number = c.description.ensures.number }) c.list.result c.args.out.now c.write.new.out c.write.result c.write.ensures.written))

pub returns-clause-answers : goal.returns-clause-answers
returns-clause-answers c =
    let v = c.args.sheet.now.values in
    stands v (valid_of v c.values.result c.values.ensures.same c.values.ensures.valid) c.args.out.now c.write.new.out (omega (arith, c.if-out-lt-ROOM.false)) c.unwrap.result
    (of_sheet v c.values.result c.list.result c.args.out.now c.write.new.out (Some c.unwrap.result) c.values.ensures.same c.list.ensures (rw (c.unwrap.ensures) at (lines_written c.description.result (record { rows = c.description.ensures.rows; layout = c.description.ensures.layout; number = c.description.ensures.number }) c.list.result c.args.out.now c.write.new.out c.write.result c.write.ensures.written)))

pub returns-clause-reads_back : goal.returns-clause-reads_back
returns-clause-reads_back c =
    let v = c.args.sheet.now.values in
    let valid = valid_of v c.values.result c.values.ensures.same c.values.ensures.valid in
    let written = of_sheet v c.values.result c.list.result c.args.out.now c.write.new.out (Some c.unwrap.result) c.values.ensures.same c.list.ensures (rw (c.unwrap.ensures) at (lines_written c.description.result (record { rows = c.description.ensures.rows; layout = c.description.ensures.layout; number = c.description.ensures.number }) c.list.result c.args.out.now c.write.new.out c.write.result c.write.ensures.written)) in
    reads_back v valid c.args.out.now c.write.new.out c.unwrap.result (stands v valid c.args.out.now c.write.new.out (omega (arith, c.if-out-lt-ROOM.false)) c.unwrap.result written)
