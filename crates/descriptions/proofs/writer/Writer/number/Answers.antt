-- The digits stand behind the minus, if there is one.
use Rattle.std.proofs.Common.{◌≡◌, true, false, ℕ, List, ◌∷◌, ℤ, pos, negsuc, w64, to_z, of_z, decimal, unsigned_abs, int_lt, Some, Option, subst, ap, ◌∙◌, arith}
use Rattle.std.proofs.lemmas.Int.{to_z-of_z}
use Rattle.std.specs.Fmt.{signed_decimal}
use Rattle.numerals.specs.Signed.{minus}
use Rattle.numerals.specs.Writing.{NumberWritten}
use Rattle.descriptions.specs.Writing.{Put}
use Rattle.descriptions.proofs.Joining.{join}
use Rattle.descriptions.proofs.writer.Writer.number.Goals.{then-number-lt0, else-number-lt0}
use Rattle.descriptions.proofs.writer.Writer.number.Goals as goal

digits_put : {before after : List ℕ} {at end : ℕ} (n : ℕ) (r : Option ℕ) → NumberWritten before at n after r → r ≡ Some end → Put before at (decimal n) after end
digits_put {before} {after} {at} {end} n r written e =
    let stands = subst (NumberWritten before at n after) e written in
    record { ends = stands.ends; fits = stands.fits; bytes = stands.bytes }

below_zero : (z : ℤ) (n : ℕ) → int_lt z (pos 0) ≡ true → n ≡ unsigned_abs z → minus ∷ decimal n ≡ signed_decimal z
below_zero (pos k) n below e = grind arith
below_zero (negsuc k) n below e = ap (λ (m : ℕ). minus ∷ decimal m) e

not_below_zero : (z : ℤ) (n : ℕ) → int_lt z (pos 0) ≡ false → n ≡ unsigned_abs z → decimal n ≡ signed_decimal z
not_below_zero (pos k) n above e = ap decimal e
not_below_zero (negsuc k) n above e = cc

pub returns-clause-written : goal.returns-clause-written
returns-clause-written c =
    let same : signed_decimal (to_z w64 (of_z w64 c.args.number)) ≡ signed_decimal c.args.number = ap signed_decimal (to_z-of_z w64 c.args.number c.ranges.number) in
    let digits = digits_put c.unsigned_abs.result c.write_number.result c.write_number.ensures.written c.unwrap-self.ensures in
    elim c.if-number-lt0.branch [
      | then-number-lt0 w ↦
          let text = below_zero _ _ w.if-number-lt0.true c.unsigned_abs.ensures.value ∙ same in
          let behind = rw w.self-is at digits in
          rw (← text) (join w.bytes.ensures.written behind)
      | else-number-lt0 w ↦
          let text = not_below_zero _ _ w.if-number-lt0.false c.unsigned_abs.ensures.value ∙ same in
          let alone = rw w.self-is at digits in
          rw (← text) alone
    ]
