-- A sheet that can be admitted keeps the limits of its values.
use Rattle.std.proofs.Common.{◌≡◌, ℕ, ◌%◌, ◌<◌, ◌≤◌, true, nat_le, List, pos, codes, arith}
use Rattle.std.proofs.lemmas.Bool.{and_parts, leb-true, eqb-true}
use Rattle.descriptions.specs.Fitting.{has_form, fits as fits_kind}
use Rattle.descriptions.specs.declared.value.Value.TheVariants.{Number}
use Rattle.sheet.specs.Lines.{number_line, list_of}
use Rattle.sheet.specs.Limits.{Limits}
use Rattle.sheet.specs.Ranges.{in_ranges, brake_allowed, admissible}
use Rattle.sheet.specs.declared.values.Values.{Values}
use Rattle.sheet.proofs.Rebuilding.{kind_at, value_at, fit}

-- a number that a line allows is within its limits
record Between (n least greatest step : ℕ) : Type 0 where
  least_kept : least ≤ n
  greatest_kept : n ≤ greatest
  in_steps : n % step ≡ 0

between : (key : List ℕ) (least greatest step n : ℕ) → fits_kind (number_line key least greatest step).kind (Number (pos n)) ≡ true → Between n least greatest step
between key least greatest step n h =
    let range = (and_parts (has_form (number_line key least greatest step).kind (Number (pos n))) _ h).1 in
    let a = and_parts (nat_le least n) _ range in
    let b = and_parts (nat_le n greatest) _ a.1 in
    record { least_kept = leb-true least n a.0; greatest_kept = leb-true n greatest b.0; in_steps = eqb-true (n % step) 0 b.1 }

pub limits : (v : Values) → admissible v ≡ true → Limits v
unfolding in_ranges
limits v valid =
    let ranges = (and_parts (in_ranges v) (brake_allowed v.train v.brake) valid).0 in
    let fits : (i : ℕ) → i < 12 → fits_kind (kind_at i) (value_at (list_of v) i) ≡ true = λ i few. fit (list_of v) i ranges few in
    let kr = between (codes "kr") 30 150 1 v.kr (fits 8 (omega arith)) in
    let lambda = between (codes "lambda") 45 160 5 v.lambda (fits 5 (omega arith)) in
    record {
      ep = (between (codes "ep") 0 1 1 v.ep (fits 4 (omega arith))).greatest_kept;
      lambda_least = lambda.least_kept;
      lambda_most = lambda.greatest_kept;
      lambda_fives = lambda.in_steps;
      length = (between (codes "length") 0 1000 1 v.length (fits 6 (omega arith))).greatest_kept;
      kr_least = kr.least_kept;
      kr_most = kr.greatest_kept;
      tw = (between (codes "tw") 0 100 1 v.tw (fits 9 (omega arith))).greatest_kept;
      ti = (between (codes "ti") 0 100 1 v.ti (fits 10 (omega arith))).greatest_kept;
      eps = (between (codes "eps") 0 20 1 v.eps (fits 11 (omega arith))).greatest_kept;
    }
