-- The digits of a number are one more than the whole part of its logarithm.
use Rattle.std.proofs.Common.{◌≡◌, ℕ, zero, suc, ◌+◌, ◌*◌, ◌^◌, ◌<◌, ◌≤◌, max, length, decimal, refl, ap, ⊎_elim, arith}
use native.Mathlib.Nat.{one-le-pow}
use Rattle.std.proofs.lemmas.Bool.{cases_lt}
use Rattle.std.proofs.lemmas.Fmt.{decimal_digit, length-decimal-le}
use Rattle.numerals.proofs.Spelling.{more_digits}

-- only the power to 0 is not above 1
flat : (k : ℕ) → 10 ^ k ≤ 1 → k ≡ 0
flat zero h = refl
flat (suc k) h = absurd (omega (arith, one-le-pow k 10 (omega arith)))

pub count_by_power : (n k : ℕ) → 10 ^ k ≤ max n 1 → max n 1 < 10 * 10 ^ k → k < 20 → n < 2 ^ 64 → length (decimal n) ≡ k + 1
count_by_power n k low high few small = ⊎_elim
    (λ l. let none = flat k (omega arith) in omega (arith, ap length (decimal_digit n (omega arith))))
    (λ l. omega (arith, more_digits k n (omega arith) (omega arith), length-decimal-le (suc k) n (omega arith) (omega arith) small))
    (cases_lt n 1)
