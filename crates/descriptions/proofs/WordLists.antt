-- Words that differ, and how long they are.
use Rattle.std.proofs.Common.{◌≡◌, ℕ, zero, suc, ◌<◌, ◌≤◌, true, not, eqb, List, [], ◌∷◌, length, get_or, refl, sym, ap, ◌∙◌, le_of_suc-le-suc, arith}
use Rattle.std.proofs.lemmas.Bool.{and_parts, and_from, eq-eqb, not-true, both_ways}
use Rattle.descriptions.specs.Laws.{is_plain, all_plain, is_same, is_none_of, all_differ, longest}
use Rattle.descriptions.proofs.PlainBytes.{IsHigh, plain_high}

same_as_itself : (w : List ℕ) → is_same w w ≡ true
unfolding is_same
same_as_itself [] = refl
same_as_itself (c ∷ w) = and_from (eqb c c) (is_same w w) (eq-eqb c c refl) (same_as_itself w)

-- a word that is none of some is not the one with any number among them
none_there : (w : List ℕ) (ws : List (List ℕ)) (i : ℕ) → is_none_of w ws ≡ true → i < length ws → w ≡ get_or ws i [] → ⊥
unfolding is_none_of
none_there w [] i none h e = omega arith
none_there w (x ∷ ws) zero none h e =
    let parts = and_parts (not (is_same w x)) (is_none_of w ws) none in
    both_ways (is_same w x) (not-true (is_same w x) parts.0) (ap (is_same w) (sym e) ∙ same_as_itself w)
none_there w (x ∷ ws) (suc i) none h e =
    let parts = and_parts (not (is_same w x)) (is_none_of w ws) none in
    none_there w ws i parts.1 (le_of_suc-le-suc h) e

-- where words differ, a word has one number
pub one_place : (ws : List (List ℕ)) (i j : ℕ) → all_differ ws ≡ true → i < length ws → j < length ws → get_or ws i [] ≡ get_or ws j [] → i ≡ j
unfolding all_differ
one_place [] i j differ hi hj e = absurd (omega arith)
one_place (w ∷ ws) zero zero differ hi hj e = refl
one_place (w ∷ ws) zero (suc j) differ hi hj e = absurd (none_there w ws j (and_parts (is_none_of w ws) (all_differ ws) differ).0 (le_of_suc-le-suc hj) e)
one_place (w ∷ ws) (suc i) zero differ hi hj e = absurd (none_there w ws i (and_parts (is_none_of w ws) (all_differ ws) differ).0 (le_of_suc-le-suc hi) (sym e))
one_place (w ∷ ws) (suc i) (suc j) differ hi hj e = ap suc (one_place ws i j (and_parts (is_none_of w ws) (all_differ ws) differ).1 (le_of_suc-le-suc hi) (le_of_suc-le-suc hj) e)

pub word_high : (ws : List (List ℕ)) (i : ℕ) → all_plain ws ≡ true → i < length ws → IsHigh (get_or ws i [])
unfolding all_plain
word_high [] i plain h = absurd (omega arith)
word_high (w ∷ ws) zero plain h = plain_high w (and_parts (is_plain w) (all_plain ws) plain).0
word_high (w ∷ ws) (suc i) plain h = word_high ws i (and_parts (is_plain w) (all_plain ws) plain).1 (le_of_suc-le-suc h)

pub word_short : (ws : List (List ℕ)) (i : ℕ) → i < length ws → length (get_or ws i []) ≤ longest ws
unfolding longest
word_short [] i h = absurd (omega arith)
word_short (w ∷ ws) zero h = omega arith
word_short (w ∷ ws) (suc i) h = omega (arith, word_short ws i (le_of_suc-le-suc h))
