-- Which of some words bytes are, where one looks for them in memory.
use Rattle.std.proofs.Common.{◌≡◌, ℕ, ◌+◌, ◌<◌, ◌≤◌, Bool, not, cond, List, [], ◌∷◌, length, map, get_or, Some, None, position, bytes_eq, Bor, sym, refl, ap, arith}
use Rattle.std.specs.List.{position_or_len}
use Rattle.std.proofs.lemmas.Bool.{false≢true, ltb-true}
use Rattle.std.proofs.lemmas.Bool.Decides.{nat_tests, not_from_Decides}
use Rattle.std.proofs.lemmas.List.{length-map}
use Rattle.std.proofs.lemmas.List.Quantifiers.{position-Some}
use Rattle.std.proofs.lemmas.List.Sums.{fails_before_first}
use Rattle.std.proofs.lemmas.Slice.Eq.{bytes_eq-Decides}
use Rattle.descriptions.specs.Reading.{HasForm}
use Rattle.descriptions.specs.Rows.{word}
use Rattle.descriptions.specs.declared.value.Value.TheVariants.{Word as WordValue, Number as NumberValue}

-- the words, apart from where they lie
abbrev plain_words : List (Bor (List ℕ)) → List (List ℕ)
plain_words ws = map (λ w. w.now) ws

-- the first word that passes stands at the same place in memory and apart from it
same_place : (p : List ℕ → Bool) (ws : List (Bor (List ℕ))) → position_or_len (λ w. p w.now) ws ≡ position_or_len p (plain_words ws)
same_place p [] = refl
same_place p (w ∷ ws) = ap (λ (n : ℕ). cond (not (p w.now)) (1 + n) 0) (same_place p ws)

-- the number of the first word that is the bytes
pub word_found : (bytes : List ℕ) (ws : List (Bor (List ℕ))) (i : ℕ) → Some i ≡ position (λ w. bytes_eq w.now bytes) ws → (i < length (plain_words ws)) × (bytes ≡ get_or (plain_words ws) i [])
word_found bytes ws i e =
    let place = same_place (λ w. bytes_eq w bytes) ws in
    let size = length-map ws (λ w. w.now) in
    let found : Some i ≡ position (λ w. bytes_eq w bytes) (plain_words ws) = grind (arith, nat_tests) in
    let p = position-Some (λ w. bytes_eq w bytes) (plain_words ws) i [] (sym found) in
    (p.0, sym ((bytes_eq-Decides (get_or (plain_words ws) i []) bytes).0 p.1))

no_word : (bytes : List ℕ) (ws : List (Bor (List ℕ))) → None ≡ position (λ w. bytes_eq w.now bytes) ws → (i : ℕ) → i < length (plain_words ws) → bytes ≡ get_or (plain_words ws) i [] → ⊥
no_word bytes ws e i h is =
    let place = same_place (λ w. bytes_eq w bytes) ws in
    let size = length-map ws (λ w. w.now) in
    let last : length ws ≤ position_or_len (λ w. bytes_eq w.now bytes) ws = grind (arith, nat_tests) in
    let fails = fails_before_first (λ w. bytes_eq w bytes) (plain_words ws) i [] (omega arith) in
    not_from_Decides (bytes_eq (get_or (plain_words ws) i []) bytes) (bytes_eq-Decides (get_or (plain_words ws) i []) bytes) fails (sym is)

-- bytes that are none of the words are no value of theirs
pub no_word_form : (bytes : List ℕ) (ws : List (Bor (List ℕ))) → None ≡ position (λ w. bytes_eq w.now bytes) ws → HasForm (word (plain_words ws)) bytes → ⊥
no_word_form bytes ws e (WordValue i, has, is) = no_word bytes ws e i (ltb-true i (length (plain_words ws)) has) is
no_word_form bytes ws e (NumberValue z, has, is) = false≢true has
