-- Bytes without a certain byte, and texts that are cut at their first one.
use Rattle.std.proofs.Common.{◌≡◌, ℕ, zero, suc, ◌<◌, List, [], ◌∷◌, ◌++◌, length, get_or, refl, ap, ◌∙◌, le_of_suc-le-suc, arith}
use Rattle.descriptions.specs.Layouts.{space, IsParted}

abbrev pub Without : ℕ → List ℕ → Type 0
Without s bytes = (k : ℕ) → k < length bytes → get_or bytes k 0 ≡ s → ⊥

without_first : (s b : ℕ) (bytes : List ℕ) → Without s (b ∷ bytes) → Without s bytes
without_first s b bytes free k h e = free (suc k) (omega arith) e

-- where the first such bytes of two texts stand, the parts before and behind them are the same
pub split_at : (s : ℕ) (a b x y : List ℕ) → Without s a → Without s b → a ++ s ∷ x ≡ b ++ s ∷ y → (a ≡ b) × (x ≡ y)
split_at s [] [] x y fa fb e = (refl, cc)
split_at s [] (d ∷ b) x y fa fb e = let z : d ≡ s = cc in absurd (fb 0 (omega arith) z)
split_at s (c ∷ a) [] x y fa fb e = let z : c ≡ s = cc in absurd (fa 0 (omega arith) z)
split_at s (c ∷ a) (d ∷ b) x y fa fb e =
    let heads : c ≡ d = cc in
    let tails : a ++ s ∷ x ≡ b ++ s ∷ y = cc in
    let rest = split_at s a b x y (without_first s c a fa) (without_first s d b fb) tails in
    (ap (λ (h : ℕ). h ∷ a) heads ∙ ap (λ (t : List ℕ). d ∷ t) rest.0, rest.1)

-- where two parts end at a space or with their texts, they are the same and so is what stands behind them
pub split_parted : (a b x y : List ℕ) → Without space a → Without space b → IsParted x → IsParted y → a ++ x ≡ b ++ y → (a ≡ b) × (x ≡ y)
split_parted [] [] x y fa fb px py e = (refl, e)
split_parted [] (d ∷ b) [] y fa fb px py e = absurd (cc)
split_parted [] (d ∷ b) (u ∷ x) y fa fb px py e = let z : d ≡ u = cc in absurd (fb 0 (omega arith) (z ∙ px))
split_parted (c ∷ a) [] x [] fa fb px py e = absurd (cc)
split_parted (c ∷ a) [] x (v ∷ y) fa fb px py e = let z : c ≡ v = cc in absurd (fa 0 (omega arith) (z ∙ py))
split_parted (c ∷ a) (d ∷ b) x y fa fb px py e =
    let heads : c ≡ d = cc in
    let tails : a ++ x ≡ b ++ y = cc in
    let rest = split_parted a b x y (without_first space c a fa) (without_first space d b fb) px py tails in
    (ap (λ (h : ℕ). h ∷ a) heads ∙ ap (λ (t : List ℕ). d ∷ t) rest.0, rest.1)

pub without_more : (s b : ℕ) (bytes : List ℕ) → (b ≡ s → ⊥) → Without s bytes → Without s (b ∷ bytes)
without_more s b bytes other rest zero h e = other e
without_more s b bytes other rest (suc k) h e = rest k (le_of_suc-le-suc h) e

pub without_joined : (s : ℕ) (a b : List ℕ) → Without s a → Without s b → Without s (a ++ b)
without_joined s [] b fa fb = fb
without_joined s (c ∷ a) b fa fb = without_more s c (a ++ b) (λ e. fa 0 (omega arith) e) (without_joined s a b (λ k h e. fa (suc k) (omega arith) e) fb)
