-- Values that fit the lines are those of the sheet that is made of them.
use Rattle.std.proofs.Common.{◌≡◌, ℕ, zero, suc, ◌+◌, ◌<◌, Bool, true, false, cond, nat_lt, List, [], ◌∷◌, length, get_or, drop, int_le, ◌==◌, ℤ, pos, negsuc, sym, ap, ◌∙◌, arith}
use Rattle.std.proofs.lemmas.Bool.{and_parts, leb-true, ltb-true, eqb-true, lt-ltb}
use Rattle.std.proofs.lemmas.List.{drop_all, drop_more}
use Rattle.descriptions.specs.Fitting.{all_fit, fits, has_form, in_range}
use Rattle.descriptions.proofs.Fits.{fit_at}
use Rattle.descriptions.specs.Rows.{Kind, PlainRow, word, number, signed}
use Rattle.descriptions.specs.Values.{whole_of, held_in_16_bits}
use Rattle.descriptions.specs.declared.value.Value.{Value}
use Rattle.descriptions.specs.declared.value.Value.TheVariants.{Word, Number}
use Rattle.sheet.specs.Lines.{sheet_lines}
use Rattle.sheet.specs.Lists.{choice_of}

-- a kind with two words
abbrev pub has_two_words : Kind → Bool
has_two_words (word ws) = length ws == 2
has_two_words (number r) = false
has_two_words (signed r) = false

-- where a line has two words, the things that stand for them tell which it is
pub chosen : {X : Type 0} (number_in : X → ℕ) (first second : X) (k : Kind) (v : Value) → number_in first ≡ 0 → number_in second ≡ 1
    → has_two_words k ≡ true → fits k v ≡ true → Word (number_in (choice_of v first second)) ≡ v
chosen number_in first second (word ws) (Word zero) e f two h = ap Word e
chosen number_in first second (word ws) (Word (suc zero)) e f two h = ap Word f
chosen number_in first second (word ws) (Word (suc (suc n))) e f two h =
    let few = ltb-true (suc (suc n)) (length ws) (and_parts (nat_lt (suc (suc n)) (length ws)) true h).0 in absurd (omega (arith, eqb-true (length ws) 2 two))
chosen number_in first second (word ws) (Number z) e f two h = let z : ◌≡◌ {A = ℕ} 0 1 = cc in absurd (omega arith)
chosen number_in first second (number r) v e f two h = let z : ◌≡◌ {A = ℕ} 0 1 = cc in absurd (omega arith)
chosen number_in first second (signed r) v e f two h = let z : ◌≡◌ {A = ℕ} 0 1 = cc in absurd (omega arith)

-- a kind of numbers that 16 bits hold
abbrev pub is_held : ℤ → Bool
is_held (pos n) = nat_lt n 65536
is_held (negsuc n) = true

abbrev pub has_small_numbers : Kind → Bool
has_small_numbers (word ws) = false
has_small_numbers (number r) = is_held r.greatest
has_small_numbers (signed r) = false

within : (n : ℕ) (greatest : ℤ) → is_held greatest ≡ true → int_le (pos n) greatest ≡ true → n < 65536
within n (pos m) small h = omega (arith, ltb-true m 65536 small, leb-true n m h)
within n (negsuc m) small h = let z : ◌≡◌ {A = ℕ} 0 1 = cc in absurd (omega arith)

-- a number that a line allows is kept in 16 bits
pub kept : (k : Kind) (v : Value) → has_small_numbers k ≡ true → fits k v ≡ true → Number (pos (held_in_16_bits (whole_of v))) ≡ v
kept (word ws) v small h = let z : ◌≡◌ {A = ℕ} 0 1 = cc in absurd (omega arith)
kept (number r) (Word n) small h = let z : ◌≡◌ {A = ℕ} 0 1 = cc in absurd (omega arith)
kept (number r) (Number (pos n)) small h =
    let range = (and_parts (has_form (number r) (Number (pos n))) (in_range r (pos n)) h).1 in
    let upto = and_parts (int_le (pos n) r.greatest) _ (and_parts (int_le r.least (pos n)) _ range).1 in
    ap (λ (b : Bool). Number (pos (cond b n 0))) (lt-ltb n 65536 (within n r.greatest small upto.0))
kept (number r) (Number (negsuc n)) small h = let z : ◌≡◌ {A = ℕ} 0 1 = cc in absurd (omega arith)
kept (signed r) v small h = let z : ◌≡◌ {A = ℕ} 0 1 = cc in absurd (omega arith)

-- what may stand in memory where no line is
abbrev no_line : PlainRow
no_line = record { key = []; kind = word [] }

abbrev pub kind_at : ℕ → Kind
kind_at i = (get_or sheet_lines i no_line).kind

-- what may stand in memory where no value is
abbrev pub no_value : Value
no_value = Word 0

module _ (list : List Value) where
  abbrev pub value_at : ℕ → Value
  value_at i = get_or list i no_value

  pub fit : (i : ℕ) → all_fit sheet_lines list ≡ true → i < 12 → fits (kind_at i) (value_at i) ≡ true
  fit i h few = fit_at sheet_lines list i no_line no_value few h

  -- where the value that is due stands there, and those behind it, the list goes on with them
  pub next : (i : ℕ) {u : Value} {us : List Value} → length list ≡ 12 → i < 12 → u ≡ value_at i → us ≡ drop (i + 1) list → u ∷ us ≡ drop i list
  next i {u} {us} size few one rest =
      ap (λ (x : Value). x ∷ us) one ∙ (ap (λ (xs : List Value). value_at i ∷ xs) rest ∙ sym (drop_more list i no_value (omega arith)))

  pub done : length list ≡ 12 → [] ≡ drop 12 list
  done size = sym (drop_all 12 list (omega arith))
