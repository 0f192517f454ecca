-- Bytes above the space, among which no separator is.
use Rattle.std.proofs.Common.{◌≡◌, ℕ, zero, suc, ◌^◌, ◌<◌, ◌≤◌, true, ltb, List, [], ◌∷◌, ◌++◌, length, get_or, decimal, le_of_suc-le-suc, arith}
use Rattle.std.proofs.lemmas.Bool.{and_parts, ltb-true}
use Rattle.std.proofs.lemmas.Fmt.{digits_decimal}
use Rattle.numerals.proofs.Plainness.{numeral_model}
use Rattle.descriptions.specs.Laws.{is_plain}
use Rattle.descriptions.specs.Layouts.{space}
use Rattle.descriptions.proofs.Separators.{Without}

abbrev pub IsHigh : List ℕ → Type 0
IsHigh bytes = (k : ℕ) → k < length bytes → space < get_or bytes k 0

pub high_none : IsHigh []
high_none k h = absurd (omega arith)

pub high_more : (b : ℕ) (bytes : List ℕ) → space < b → IsHigh bytes → IsHigh (b ∷ bytes)
high_more b bytes first rest zero h = first
high_more b bytes first rest (suc k) h = rest k (le_of_suc-le-suc h)

pub high_joined : (a b : List ℕ) → IsHigh a → IsHigh b → IsHigh (a ++ b)
high_joined [] b ha hb = hb
high_joined (c ∷ a) b ha hb = high_more c (a ++ b) (ha 0 (omega arith)) (high_joined a b (λ k h. ha (suc k) (omega arith)) hb)

pub plain_high : (bytes : List ℕ) → is_plain bytes ≡ true → IsHigh bytes
unfolding is_plain
plain_high [] e = high_none
plain_high (b ∷ bytes) e =
    let parts = and_parts (ltb space b) (is_plain bytes) e in
    high_more b bytes (ltb-true space b parts.0) (plain_high bytes parts.1)

pub high_without : (s : ℕ) (bytes : List ℕ) → s ≤ space → IsHigh bytes → Without s bytes
high_without s bytes low high k h e = omega (arith, high k h)

pub digits_high : (n : ℕ) → n < 10 ^ 10 → IsHigh (decimal n)
digits_high n small k h = omega (arith, (digits_decimal numeral_model n (omega arith) k h).0)
