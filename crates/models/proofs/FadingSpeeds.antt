-- Every entry of the table of VL is the greatest number of its rule, by one test that is computed at each.
use Rattle.std.proofs.Common.{◌≡◌, ℕ, suc, ◌+◌, ◌-◌, ◌*◌, ◌/◌, ◌%◌, ◌^◌, ◌<◌, ◌≤◌, Bool, true, ◌&&◌, ltb, leb, get_or, refl, subst, le_trans, lt_of_lt_of_le, lt_irrefl, arith}
use native.Mathlib.Nat.{pow-le-pow_left}
use native.Mathlib.Omega.{by_contra}
use Rattle.std.proofs.lemmas.Bool.{and_parts, leb-true, ltb-true}
use Rattle.models.specs.Vl.{Greatest, entries, vl}
use Rattle.models.proofs.Tables.{every, holds}

-- where the next number is too great, none above is small enough; the exponent is a variable, so that nothing is multiplied out
next_too_great : (e bound n m : ℕ) → bound < (10 * suc n) ^ e → (10 * m) ^ e ≤ bound → n < m → ⊥
next_too_great e bound n m over small above =
    let more : 10 * suc n ≤ 10 * m = omega arith in
    lt_irrefl bound (lt_of_lt_of_le over (le_trans (pow-le-pow_left more e) small))

within : ℕ → ℕ → Bool
within k n = leb ((10 * n) ^ 1000) (1617 ^ 1000 * (45 + 5 * k) ^ 443)

next_over : ℕ → ℕ → Bool
next_over k n = ltb (1617 ^ 1000 * (45 + 5 * k) ^ 443) ((10 * suc n) ^ 1000)

right : ℕ → ℕ → Bool
right k n = within k n && next_over k n

all_right : every right 0 entries ≡ true
unfolding right within next_over
all_right = refl

rightly : (k n : ℕ) → right k n ≡ true → Greatest (45 + 5 * k) n
unfolding right within next_over
rightly k n e = record {
  within = leb-true _ _ (and_parts (within k n) (next_over k n) e).0;
  greatest = λ m h. by_contra m n (next_too_great 1000 _ n m (ltb-true _ _ (and_parts (within k n) (next_over k n) e).1) h);
}

pub greatest : (lambda : ℕ) → 45 ≤ lambda → lambda ≤ 160 → lambda % 5 ≡ 0 → Greatest lambda (vl lambda)
unfolding vl right
greatest lambda low high fives =
    let k : ℕ = (lambda - 45) / 5 in
    let is : 45 + 5 * k ≡ lambda = omega arith in
    let h : k < 24 = omega arith in
    subst (λ (l : ℕ). Greatest l (get_or entries k 0)) is (rightly k (get_or entries k 0) (holds right entries all_right k h))
