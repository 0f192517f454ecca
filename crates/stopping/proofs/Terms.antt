-- Each term of a distance is within its slack of the exact one, and slacks add up.
use Rattle.std.proofs.Common.{◌≡◌, ℕ, ◌+◌, ◌-◌, ◌*◌, ◌<◌, ◌≤◌, ap, le_of_lt, mul-le-mul_right, mul-le-mul, mul-le-mul_left, sub-add_cancel, arith}
use native.Mathlib.Nat.{le_of_mul-le-mul_left}
use Rattle.units.specs.Fractions.{Fraction, ratio, ◌≼◌, ◌⊕◌}
use Rattle.units.specs.Rounding.{RoundedUp}
use Rattle.braking.specs.Laws.{Within}

pub sum_within : {s t e f : Fraction} {c d : ℕ} → Within s e c → Within t f d → Within (s ⊕ t) (e ⊕ f) (c + d)
sum_within {s} {t} {e} {f} {c} {d} h k = record {
  at_least = omega (arith, mul-le-mul_right f.denominator h.at_least, mul-le-mul_right e.denominator k.at_least);
  at_most = omega (arith, mul-le-mul_right (f.denominator * t.denominator) h.at_most, mul-le-mul_right (e.denominator * s.denominator) k.at_most);
}

pub within_more : {s e : Fraction} {c : ℕ} (t : Fraction) → s ≼ t → Within s e c → Within t e c
within_more {s} {e} {c} t h k = record {
  at_least = k.at_least;
  at_most = le_of_mul-le-mul_left {k = s.denominator} (omega (arith, mul-le-mul_right t.denominator k.at_most, mul-le-mul_right e.denominator h)) s.positive;
}

-- n / m, however the fraction e writes it, within s hundredths of a mm, from products with no fraction in them
products_within : (s n m c : ℕ) (e : Fraction) → e.numerator ≡ n → e.denominator ≡ m → n ≤ c * m → 4999900 * (c * m) ≤ 50000 * (100 * n + s * m) → Within (ratio s 100) e c
products_within s n m c e is-n is_m low high = record { at_least = rw (is-n, is_m) (omega arith); at_most = rw (is-n, is_m) (omega arith) }

-- k b / m, where B is b rounded up and c is k B / m rounded up
pub speed_term : (b : Fraction) (B k m s c : ℕ) → RoundedUp b.numerator b.denominator B → RoundedUp (k * B) m c → 100 * (k + m) ≤ s * m →
    (e : Fraction) → e.numerator ≡ k * b.numerator → e.denominator ≡ b.denominator * m → Within (ratio s 100) e c
speed_term b B k m s c up whole-up slack e is-n is_m =
    products_within s (k * b.numerator) (b.denominator * m) c e is-n is_m
    (omega (arith, mul-le-mul_left k up.reaches, mul-le-mul_right b.denominator whole-up.reaches))
    (omega (arith, mul-le-mul_left k (le_of_lt up.least), mul-le-mul_right b.denominator (le_of_lt whole-up.least), mul-le-mul_right b.denominator slack))

-- for n ≤ x ≤ n + m the squares of n and x are near
square_near : (n m x : ℕ) → n ≤ x → x ≤ n + m → x * x ≤ n * n + 2 * (x * m)
square_near n m x up near = omega (arith, mul-le-mul_left x near, mul-le-mul_left n near, mul-le-mul_right m up)

-- q over m m is the difference of the squares of n / m and v, and Q that of the squares of B and v
difference_reaches : (n m B v q Q : ℕ) → n ≤ B * m → q + v * v * (m * m) ≡ n * n → Q + v * v ≡ B * B → q ≤ Q * (m * m)
difference_reaches n m B v q Q up is-q is-Q = omega (arith, mul-le-mul up up, ap (λ x. x * (m * m)) is-Q)

difference_near : (n m B v q Q : ℕ) → n ≤ B * m → B * m ≤ n + m → q + v * v * (m * m) ≡ n * n → Q + v * v ≡ B * B → Q * (m * m) ≤ q + 2 * (B * (m * m))
difference_near n m B v q Q up near is-q is-Q = omega (arith, square_near n m (B * m) up near, ap (λ x. x * (m * m)) is-Q)

-- dn / dd is less than 9 over D, so little more than D
little_more : (D dn dd : ℕ) → 500000 ≤ D → dn < (D + 9) * dd → 49999 * dn ≤ 50000 * (D * dd)
little_more D dn dd h near = omega (arith, mul-le-mul_right dd h)

-- 625 q / u over 162 dn / dd, where Q is at least q / u, D at most dn / dd, and c is 625 Q / (162 D) rounded up
braking_reaches : (q u Q dn dd D c : ℕ) → q ≤ Q * u → D * dd ≤ dn → 625 * Q ≤ c * (162 * D) → 625 * q * dd ≤ c * (162 * dn * u)
braking_reaches q u Q dn dd D c up down low =
    omega (arith, mul-le-mul_right dd up, mul-le-mul_right (u * dd) low, mul-le-mul_left (c * u) down)

-- the same from above, shown times D
braking_near : (q u Q B dn dd D c : ℕ) → Q * u ≤ q + 2 * (B * u) → B ≤ 5000000 → 500000 ≤ D → 49999 * dn ≤ 50000 * (D * dd) → c * (162 * D) ≤ 625 * Q + 162 * D →
    4999900 * (c * (162 * dn * u)) ≤ 50000 * (100 * (625 * q * dd) + 7817 * (162 * dn * u))
braking_near q u Q B dn dd D c near B-most DLeast little high =
    let ten : B ≤ 10 * D = omega arith in
    let times-D : D * (4999900 * (c * (162 * dn * u))) ≤ D * (50000 * (100 * (625 * q * dd) + 7817 * (162 * dn * u))) =
    omega (arith, mul-le-mul_right (dn * u) high, mul-le-mul_right dn near, mul-le-mul_right q little, mul-le-mul_right (u * dn) ten) in
    le_of_mul-le-mul_left times-D (omega arith)

-- 625 (b² - v²) / (162 d), where B is b rounded up, D is less than 9 under d, and c is the same of B and D rounded up
pub braking_term : (b : Fraction) (B v : ℕ) (d : Fraction) (D c : ℕ) → RoundedUp b.numerator b.denominator B → B ≤ 5000000 → v * b.denominator ≤ b.numerator → v ≤ B →
    D * d.denominator ≤ d.numerator → d.numerator < (D + 9) * d.denominator → 500000 ≤ D → RoundedUp (625 * (B * B - v * v)) (162 * D) c →
    (e : Fraction) → e.numerator ≡ 625 * (b.numerator * b.numerator - v * v * (b.denominator * b.denominator)) * d.denominator → e.denominator ≡ 162 * d.numerator * (b.denominator * b.denominator) → Within (ratio 7817 100) e c
braking_term b B v d D c up B-most slower slower_up down close DLeast whole-up e is-n is_m =
    let q : ℕ = b.numerator * b.numerator - v * v * (b.denominator * b.denominator) in
    let Q : ℕ = B * B - v * v in
    let no_stop : v * v * (b.denominator * b.denominator) ≤ b.numerator * b.numerator = omega (arith, mul-le-mul slower slower) in
    let is-q : q + v * v * (b.denominator * b.denominator) ≡ b.numerator * b.numerator = sub-add_cancel no_stop in
    let is-Q : Q + v * v ≡ B * B = sub-add_cancel (mul-le-mul slower_up slower_up) in
    let q-up = difference_reaches b.numerator b.denominator B v q Q up.reaches is-q is-Q in
    let q-near = difference_near b.numerator b.denominator B v q Q up.reaches (le_of_lt up.least) is-q is-Q in
    let little = little_more D d.numerator d.denominator DLeast close in
    products_within 7817 _ _ c e is-n is_m
    (braking_reaches q _ Q d.numerator d.denominator D c q-up down whole-up.reaches)
    (braking_near q _ Q B d.numerator d.denominator D c q-near B-most DLeast little (le_of_lt whole-up.least))
