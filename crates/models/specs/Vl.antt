-- VL, the speed above which the brake of the scmt model fades, in tenths of km/h.
use Rattle.std.specs.Prelude.{ℕ, ◌-◌, ◌*◌, ◌/◌, ◌^◌, ◌≤◌, List, [], ◌∷◌, slice_index}

-- n is the greatest number for which the 1000th power of 10 n is at most the 1000th power of 1617 times the 443rd power of lambda.
pub record Greatest (lambda n : ℕ) : Type 0 where
  pub within : (10 * n) ^ 1000 ≤ 1617 ^ 1000 * lambda ^ 443
  pub greatest : (m : ℕ) → (10 * m) ^ 1000 ≤ 1617 ^ 1000 * lambda ^ 443 → m ≤ n

-- Those numbers at lambda 45, 50 and so on up to 160.
abbrev pub entries : List ℕ
entries =
    873 ∷ 914 ∷ 954 ∷ 991 ∷ 1027 ∷ 1061 ∷ 1094 ∷ 1126 ∷ 1157 ∷ 1186 ∷ 1215 ∷ 1243 ∷ 1270 ∷ 1297 ∷ 1323 ∷ 1348 ∷ 1372 ∷ 1396 ∷ 1420 ∷ 1443 ∷ 1466 ∷ 1488 ∷ 1510 ∷ 1531 ∷ []

unfoldable pub vl : ℕ → ℕ
vl lambda = slice_index entries ((lambda - 45) / 5)
