-- A number that is written in at most 10 digits is below 10 ^ 10, whatever number it is.
use Rattle.std.proofs.Common.{◌≡◌, ℕ, zero, suc, ◌+◌, ◌/◌, ◌%◌, ◌^◌, ◌<◌, ◌≤◌, false, eqb, List, [], ◌∷◌, length, decimal, sym, ap, ◌∙◌, ⊎_elim, arith}
use native.Mathlib.Nat.{one-le-pow}
use Rattle.std.specs.Fmt.{digit_glyph, digits_onto, digits}
use Rattle.std.proofs.lemmas.Bool.{cases_lt, cond_both, eqb-true}
use Rattle.std.proofs.lemmas.Fmt.{decimal_injective}

-- the digits of n in at most k turns, in front of what is there
abbrev before : ℕ → ℕ → List ℕ → List ℕ
before k n behind = digits_onto k 10 false n behind

abbrev longer : ℕ → List ℕ → List ℕ
longer n behind = digit_glyph false (n % 10) ∷ behind

grows : (k n : ℕ) (behind : List ℕ) → length behind ≤ length (before k n behind)
grows zero n behind = omega arith
grows (suc k) n behind = cond_both (eqb (n / 10) 0) (longer n behind) (before k (n / 10) (longer n behind)) (λ ds. length behind ≤ length ds) (λ e. omega arith) (λ e. omega (arith, grows k (n / 10) (longer n behind)))

-- a number from 10 ^ j on has more than j digits, as far as the turns go
many : (j k n : ℕ) (behind : List ℕ) → 10 ^ j ≤ n → j < k → length behind + j < length (before k n behind)
many j zero n behind big turns = absurd (omega arith)
many zero (suc k) n behind big turns = cond_both (eqb (n / 10) 0) (longer n behind) (before k (n / 10) (longer n behind)) (λ ds. length behind + 0 < length ds) (λ e. omega arith) (λ e. omega (arith, grows k (n / 10) (longer n behind)))
many (suc j) (suc k) n behind big turns = cond_both (eqb (n / 10) 0) (longer n behind) (before k (n / 10) (longer n behind)) (λ ds. length behind + suc j < length ds)
    (λ e. absurd (omega (arith, eqb-true (n / 10) 0 e, one-le-pow j 10 (omega arith))))
    (λ e. omega (arith, many j k (n / 10) (longer n behind) (omega arith) (omega arith)))

pub under_ten_digits : (n : ℕ) → length (decimal n) ≤ 10 → n < 10 ^ 10
unfolding digits
under_ten_digits n h = ⊎_elim (λ l. l) (λ l. absurd (omega (arith, many 10 64 n [] l (omega arith)))) (cases_lt n (10 ^ 10))

-- at most 10 bytes write one number at most
pub one_number : (m n : ℕ) (bytes : List ℕ) → length bytes ≤ 10 → bytes ≡ decimal m → bytes ≡ decimal n → m ≡ n
one_number m n bytes short e f =
    let m_small : m < 10 ^ 10 = under_ten_digits m (omega (arith, ap length e)) in
    let n_small : n < 10 ^ 10 = under_ten_digits n (omega (arith, ap length f)) in
    decimal_injective m n (omega arith) (omega arith) (sym e ∙ f)

-- a number from 10 ^ j on has more than j digits
pub more_digits : (j n : ℕ) → 10 ^ j ≤ n → j < 64 → j < length (decimal n)
unfolding digits
more_digits j n big turns = omega (arith, many j 64 n [] big turns)
