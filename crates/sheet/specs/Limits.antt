-- The ranges of a sheet that can be admitted, as inequalities.
use Rattle.std.specs.Prelude.{◌≡◌, ◌%◌, ◌≤◌}
use Rattle.sheet.specs.declared.values.Values.{Values}

pub record Limits (v : Values) : Type 0 where
  pub ep : v.ep ≤ 1
  pub lambda_least : 45 ≤ v.lambda
  pub lambda_most : v.lambda ≤ 160
  pub lambda_fives : v.lambda % 5 ≡ 0
  pub length : v.length ≤ 1000
  pub kr_least : 30 ≤ v.kr
  pub kr_most : v.kr ≤ 150
  pub tw : v.tw ≤ 100
  pub ti : v.ti ≤ 100
  pub eps : v.eps ≤ 20
