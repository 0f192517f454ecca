-- Which values a row may have.
use Rattle.std.specs.Prelude.{ℕ, ◌%◌, Bool, true, false, ◌&&◌, ◌==◌, nat_le, nat_lt, int_le, List, [], ◌∷◌, length, ℤ, pos, negsuc, decimal, unsigned_abs}
use Rattle.descriptions.specs.declared.number_range.NumberRange.{NumberRange}
use Rattle.descriptions.specs.declared.value.Value.{Value}
use Rattle.descriptions.specs.declared.value.Value.TheVariants.{Word as WordValue, Number as NumberValue}
use Rattle.descriptions.specs.Rows.{Kind, PlainRow, word, number, signed}

-- The number has at most so many digits, and never more than 10.
abbrev pub is_short : (max_digits n : ℕ) → Bool
is_short max_digits n = nat_le (length (decimal n)) max_digits && nat_le (length (decimal n)) 10

-- The value is one of the words, or a number with few enough digits, and below 0 only where a minus may stand.
abbrev pub has_form : Kind → Value → Bool
has_form (word ws) (WordValue i) = nat_lt i (length ws)
has_form (word ws) (NumberValue z) = false
has_form (number r) (WordValue i) = false
has_form (number r) (NumberValue (pos n)) = is_short r.max_digits n
has_form (number r) (NumberValue (negsuc n)) = false
has_form (signed r) (WordValue i) = false
has_form (signed r) (NumberValue z) = is_short r.max_digits (unsigned_abs z)

-- From the least to the greatest, and in steps.
abbrev pub in_range : NumberRange → ℤ → Bool
in_range r z = int_le r.least z && (int_le z r.greatest && unsigned_abs z % r.step == 0)

-- The range is asked of a number alone.
abbrev pub is_in_range : Kind → Value → Bool
is_in_range (word ws) v = true
is_in_range (number r) (WordValue i) = true
is_in_range (number r) (NumberValue z) = in_range r z
is_in_range (signed r) (WordValue i) = true
is_in_range (signed r) (NumberValue z) = in_range r z

-- The value is one that the kind allows.
abbrev pub fits : Kind → Value → Bool
fits k v = has_form k v && is_in_range k v

-- The values are those of the rows, one for one.
abbrev pub all_fit : List PlainRow → List Value → Bool
all_fit [] [] = true
all_fit [] (v ∷ vs) = false
all_fit (r ∷ rs) [] = false
all_fit (r ∷ rs) (v ∷ vs) = fits r.kind v && all_fit rs vs
