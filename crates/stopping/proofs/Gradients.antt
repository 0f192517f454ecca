-- The slope's part of the deceleration stays within its limits.
use Rattle.std.proofs.Common.{ℕ, ltb, leb, ℤ, pos, negsuc, ◌*ℤ◌, ◌≤ℤ◌, arith}
use Rattle.std.proofs.lemmas.Bool.{cond_both}
use Rattle.std.proofs.lemmas.Int.{ints}
use Rattle.stopping.specs.Slopes.{slope_of}

-- the steepest fall takes 3,776,850 units
pub slope_least : (grade : ℤ) → negsuc 34 ≤ℤ grade → negsuc 3776849 ≤ℤ slope_of grade
slope_least (pos n) h = cond_both (ltb 0 n) 90 100 (λ (k : ℕ). negsuc 3776849 ≤ℤ ((pos k *ℤ pos n) *ℤ pos 981)) (λ e. omega (arith, ints)) (λ e. omega (arith, ints))
slope_least (negsuc n) h = cond_both (leb n 19) 100 110 (λ (k : ℕ). negsuc 3776849 ≤ℤ ((pos k *ℤ negsuc n) *ℤ pos 981)) (λ e. omega (arith, ints)) (λ e. omega (arith, ints))

pub slope_not_below : (grade : ℤ) → negsuc 34 ≤ℤ grade → negsuc 4199999 ≤ℤ slope_of grade
slope_not_below grade h = omega (arith, ints, slope_least grade h)

pub slope_not_above : (grade : ℤ) → grade ≤ℤ pos 35 → slope_of grade ≤ℤ pos 4200000
slope_not_above (pos n) h = cond_both (ltb 0 n) 90 100 (λ (k : ℕ). ((pos k *ℤ pos n) *ℤ pos 981) ≤ℤ pos 4200000) (λ e. omega (arith, ints)) (λ e. omega (arith, ints))
slope_not_above (negsuc n) h = cond_both (leb n 19) 100 110 (λ (k : ℕ). ((pos k *ℤ negsuc n) *ℤ pos 981) ≤ℤ pos 4200000) (λ e. omega (arith, ints)) (λ e. omega (arith, ints))
