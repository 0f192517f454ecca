-- The text of a value that has the form of its kind: it has no separators, it is within its room, and no other value has it.
use Rattle.std.proofs.Common.{◌≡◌, ℕ, suc, ◌+◌, ◌^◌, ◌<◌, ◌≤◌, true, leb, length, ℤ, pos, negsuc, unsigned_abs, decimal, min, ap, arith}
use lib.Signed.{mag}
use Rattle.std.specs.Fmt.{signed_decimal}
use Rattle.std.proofs.lemmas.Bool.{and_parts, leb-true, ltb-true, false≢true}
use Rattle.std.proofs.lemmas.Fmt.{signed_decimal_injective}
use Rattle.numerals.proofs.Spelling.{under_ten_digits}
use Rattle.descriptions.specs.Fitting.{is_short, has_form, is_in_range, fits}
use Rattle.descriptions.specs.Laws.{all_plain, all_differ, are_words, value_room}
use Rattle.descriptions.specs.Rows.{Kind, word, number, signed, value_text}
use Rattle.descriptions.specs.declared.value.Value.{Value}
use Rattle.descriptions.specs.declared.value.Value.TheVariants.{Word as WordValue, Number as NumberValue}
use Rattle.descriptions.proofs.PlainBytes.{IsHigh, high_more, digits_high}
use Rattle.descriptions.proofs.WordLists.{one_place, word_high, word_short}

-- a value that fits has the form of its kind
pub formed : (k : Kind) (v : Value) → fits k v ≡ true → has_form k v ≡ true
formed k v fit = (and_parts (has_form k v) (is_in_range k v) fit).0

-- what a test for few digits says
record HasFewDigits (max_digits n : ℕ) : Type 0 where
  within : length (decimal n) ≤ max_digits
  short : length (decimal n) ≤ 10
  small : n < 10 ^ 10

few_digits : (max_digits n : ℕ) → is_short max_digits n ≡ true → HasFewDigits max_digits n
few_digits max_digits n e =
    let parts = and_parts (leb (length (decimal n)) max_digits) (leb (length (decimal n)) 10) e in
    let short : length (decimal n) ≤ 10 = leb-true (length (decimal n)) 10 parts.1 in
    record { within = leb-true (length (decimal n)) max_digits parts.0; short = short; small = under_ten_digits n short }

signed_high : (z : ℤ) → unsigned_abs z < 10 ^ 10 → IsHigh (signed_decimal z)
signed_high (pos n) small = digits_high n small
signed_high (negsuc n) small = high_more 45 (decimal (suc n)) (omega arith) (digits_high (suc n) small)

pub value_high : (k : Kind) (v : Value) → are_words k ≡ true → has_form k v ≡ true → IsHigh (value_text k v)
unfolding are_words
value_high (word ws) (WordValue i) words form = word_high ws i (and_parts (all_plain ws) (all_differ ws) words).0 (ltb-true i (length ws) form)
value_high (word ws) (NumberValue z) words form = absurd (false≢true form)
value_high (number r) (WordValue i) words form = absurd (false≢true form)
value_high (number r) (NumberValue (pos n)) words form = signed_high (pos n) (few_digits r.max_digits n form).small
value_high (number r) (NumberValue (negsuc n)) words form = absurd (false≢true form)
value_high (signed r) (WordValue i) words form = absurd (false≢true form)
value_high (signed r) (NumberValue z) words form = signed_high z (few_digits r.max_digits (unsigned_abs z) form).small

signed_short : (max_digits : ℕ) (z : ℤ) → HasFewDigits max_digits (unsigned_abs z) → length (signed_decimal z) ≤ 1 + min max_digits 10
signed_short max_digits (pos n) few = omega (arith, few.within, few.short)
signed_short max_digits (negsuc n) few = omega (arith, few.within, few.short)

pub value_short : (k : Kind) (v : Value) → has_form k v ≡ true → length (value_text k v) ≤ value_room k
unfolding value_room
value_short (word ws) (WordValue i) form = word_short ws i (ltb-true i (length ws) form)
value_short (word ws) (NumberValue z) form = absurd (false≢true form)
value_short (number r) (WordValue i) form = absurd (false≢true form)
value_short (number r) (NumberValue (pos n)) form = let few = few_digits r.max_digits n form in omega (arith, few.within, few.short)
value_short (number r) (NumberValue (negsuc n)) form = absurd (false≢true form)
value_short (signed r) (WordValue i) form = absurd (false≢true form)
value_short (signed r) (NumberValue z) form = signed_short r.max_digits z (few_digits r.max_digits (unsigned_abs z) form)

small : (z : ℤ) → unsigned_abs z < 10 ^ 10 → mag z < 2 ^ 63
small (pos n) h = omega arith
small (negsuc n) h = omega arith

same_number : (max_digits : ℕ) (y z : ℤ) → is_short max_digits (unsigned_abs y) ≡ true → is_short max_digits (unsigned_abs z) ≡ true → signed_decimal y ≡ signed_decimal z → y ≡ z
same_number max_digits y z few too e =
    let a = (few_digits max_digits (unsigned_abs y) few).small in
    let b = (few_digits max_digits (unsigned_abs z) too).small in signed_decimal_injective y z (small y a) (small z b) e

pub same_value : (k : Kind) (v w : Value) → are_words k ≡ true → has_form k v ≡ true → has_form k w ≡ true → value_text k v ≡ value_text k w → v ≡ w
unfolding are_words
same_value (word ws) (NumberValue y) w words form too e = absurd (false≢true form)
same_value (word ws) (WordValue i) (NumberValue z) words form too e = absurd (false≢true too)
same_value (word ws) (WordValue i) (WordValue j) words form too e =
    ap WordValue (one_place ws i j (and_parts (all_plain ws) (all_differ ws) words).1 (ltb-true i (length ws) form) (ltb-true j (length ws) too) e)
same_value (number r) (WordValue i) w words form too e = absurd (false≢true form)
same_value (number r) (NumberValue (negsuc m)) w words form too e = absurd (false≢true form)
same_value (number r) (NumberValue (pos m)) (WordValue j) words form too e = absurd (false≢true too)
same_value (number r) (NumberValue (pos m)) (NumberValue (negsuc n)) words form too e = absurd (false≢true too)
same_value (number r) (NumberValue (pos m)) (NumberValue (pos n)) words form too e = ap NumberValue (same_number r.max_digits (pos m) (pos n) form too e)
same_value (signed r) (WordValue i) w words form too e = absurd (false≢true form)
same_value (signed r) (NumberValue y) (WordValue j) words form too e = absurd (false≢true too)
same_value (signed r) (NumberValue y) (NumberValue z) words form too e = ap NumberValue (same_number r.max_digits y z form too e)
