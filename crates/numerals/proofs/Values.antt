-- The value of plain digits, one digit after another.
use Rattle.std.proofs.Common.{◌≡◌, ℕ, ◌+◌, ◌-◌, ◌*◌, ◌^◌, ◌<◌, ◌≤◌, List, length, get_or, take, decimal, sym, ap, ◌∙◌, arith}
use Rattle.std.specs.Str.Parse.{digits_value}
use Rattle.std.proofs.lemmas.List.{take_all}
use Rattle.std.proofs.lemmas.Int.Digits.{digits_value_more}
use Rattle.std.proofs.lemmas.Fmt.{digits_value-decimal}
use Rattle.std.proofs.lemmas.Str.{digit_value_digit}
use Rattle.std.proofs.lemmas.Str.Parse.{digits_value-take-le}
use Rattle.numerals.specs.Numerals.{IsPlain}
use Rattle.numerals.proofs.Plainness.{numeral_model, plain_small, plain_writes}

-- that of the first digits is at most that of all
pub value_small : (bytes : List ℕ) (i : ℕ) → IsPlain 10 bytes → digits_value 10 (take i bytes) < 10 ^ 10
value_small bytes i p = omega (arith, digits_value-take-le 10 bytes i (omega arith), plain_small 10 bytes p)

-- one more digit
pub value_grows : (bytes : List ℕ) (i : ℕ) → i < length bytes → IsPlain 10 bytes → digits_value 10 (take (i + 1) bytes) ≡ digits_value 10 (take i bytes) * 10 + (get_or bytes i 0 - 48)
value_grows bytes i h p = omega (arith, digits_value_more 10 bytes i h, digit_value_digit (get_or bytes i 0) (p.digits i h))

-- with the last digit it is what the digits write
pub value_written : (bytes : List ℕ) (i : ℕ) → length bytes ≤ i → IsPlain 10 bytes → bytes ≡ decimal (digits_value 10 (take i bytes))
value_written bytes i h p = (plain_writes 10 bytes p).written ∙ ap (λ (ds : List ℕ). decimal (digits_value 10 ds)) (sym (take_all i bytes h))

-- and where a number writes the digits, it is that number
pub value_read_off : (n i : ℕ) → length (decimal n) ≤ i → n < 10 ^ 10 → digits_value 10 (take i (decimal n)) ≡ n
value_read_off n i h small = ap (digits_value 10) (take_all i (decimal n) h) ∙ digits_value-decimal numeral_model n (omega arith)

-- what `Digits::value` is proved by
pub ruleset values = (value_small, value_grows, value_written, value_read_off)
