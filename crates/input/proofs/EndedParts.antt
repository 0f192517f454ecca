-- The parts of bytes that each end with a byte, one after the other.
use Rattle.std.proofs.Common.{◌≡◌, ℕ, suc, ◌+◌, ◌-◌, ◌<◌, ◌≤◌, Bool, List, [], ◌∷◌, ◌++◌, length, take, drop, Some, None, position, ◌==◌, false, sym, ap, ◌∙◌, subst, arith}
use Rattle.std.specs.List.{slice_split, position_or_len}
use Rattle.std.proofs.lemmas.Bool.Decides.{nat_tests}
use Rattle.std.proofs.lemmas.List.Elements.{All-from_get_or}
use Rattle.std.proofs.lemmas.List.Quantifiers.{position-Some}
use Rattle.std.proofs.lemmas.List.Splits.{length-slice_split, slice_split_first, slice_split_none}
use Rattle.std.proofs.lemmas.List.Sums.{fails_before_first, position_or_len_is}
use Rattle.input.specs.Texts.{ended_parts}

without_last : {X : Type 0} (x : X) (xs : List X) → 0 < length xs → take (length (x ∷ xs) - 1) (x ∷ xs) ≡ x ∷ take (length xs - 1) xs
without_last {X} x xs some = let e : length (x ∷ xs) - 1 ≡ suc (length xs - 1) = omega arith in ap (λ (n : ℕ). take {A = X} n (x ∷ xs)) e

front_and_last : {X : Type 0} (xs : List X) → 0 < length xs → (last : X) × (take (length xs - 1) xs ++ last ∷ [] ≡ xs)
front_and_last [] some = absurd (omega arith)
front_and_last (x ∷ []) some = let e : length (x ∷ []) - 1 ≡ 0 = omega arith in (x, ap (λ (n : ℕ). take n (x ∷ []) ++ x ∷ []) e)
front_and_last {X} (x ∷ y ∷ ys) some =
    let r = front_and_last (y ∷ ys) (omega arith) in
    (r.0, ap (λ (front : List X). front ++ r.0 ∷ []) (without_last x (y ∷ ys) (omega arith)) ∙ ap (λ (more : List X). x ∷ more) r.1)

split_first : (p : ℕ → Bool) (bytes : List ℕ) (i : ℕ) → i < length bytes → position_or_len p bytes ≡ i → slice_split p bytes ≡ take i bytes ∷ slice_split p (drop (i + 1) bytes)
split_first p bytes i h at = subst (λ (n : ℕ). slice_split p bytes ≡ take n bytes ∷ slice_split p (drop (n + 1) bytes)) at (slice_split_first p bytes 0 (omega (arith, at, h)))

-- the first part goes up to the first such byte, and the others come of what stands behind it
pub first_part : (end : ℕ) (bytes : List ℕ) (i : ℕ) → Some i ≡ position (λ b. b == end) bytes → ended_parts end bytes ≡ take i bytes ∷ ended_parts end (drop (i + 1) bytes)
unfolding ended_parts
first_part end bytes i e =
    let p = position-Some (λ b. b == end) bytes i 0 (sym e) in
    let at : position_or_len (λ b. b == end) bytes ≡ i = position_or_len_is (λ b. b == end) bytes i 0 (omega (arith, p.0)) p.2 (λ h. p.1) in
    ap (λ (parts : List (List ℕ)). take (length parts - 1) parts) (split_first (λ b. b == end) bytes i p.0 at)
    ∙ without_last (take i bytes) (slice_split (λ b. b == end) (drop (i + 1) bytes)) (omega (arith, length-slice_split (λ (b : ℕ). b == end) (drop (i + 1) bytes)))

-- where there is no such byte, there is no part
pub no_part : (end : ℕ) (bytes : List ℕ) → None ≡ position (λ b. b == end) bytes → ended_parts end bytes ≡ []
unfolding ended_parts
no_part end bytes e =
    let last : length bytes ≤ position_or_len (λ b. b == end) bytes = grind (arith, nat_tests) in
    let none = All-from_get_or (λ (b : ℕ). (b == end) ≡ false) bytes 0 (λ k h. fails_before_first (λ b. b == end) bytes k 0 (omega arith)) in
    ap (λ (parts : List (List ℕ)). take (length parts - 1) parts) (slice_split_none (λ b. b == end) bytes none)

-- with the part behind the last such byte they are all parts
pub with_last : (end : ℕ) (bytes : List ℕ) → (last : List ℕ) × (ended_parts end bytes ++ last ∷ [] ≡ slice_split (λ b. b == end) bytes)
unfolding ended_parts
with_last end bytes = front_and_last (slice_split (λ b. b == end) bytes) (omega (arith, length-slice_split (λ (b : ℕ). b == end) bytes))
