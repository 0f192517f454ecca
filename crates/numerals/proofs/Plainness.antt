-- Plain digits are exactly the written digits of their value.
use Rattle.std.proofs.Common.{◌≡◌, ℕ, ◌^◌, ◌<◌, ◌≤◌, List, length, get_or, decimal, refl, sym, ap, ◌∙◌, subst, ⊎_elim, arith}
use Rattle.std.specs.Str.Parse.{digits_value}
use Rattle.std.proofs.lemmas.Bool.{cases_lt}
use Rattle.std.proofs.lemmas.Str.Parse.{IsNumeralModel, numerals_by_value, tells_by_index, digits_value_short}
use Rattle.std.proofs.lemmas.Fmt.{decimal_digit, decimal_nonempty, first_decimal, digits_decimal, digits_value-decimal, decimal-digits_value}
use Rattle.numerals.specs.Digits.{AllDigits}
use Rattle.numerals.specs.Numerals.{Writes, HasLeadingZero, IsPlain}
use Rattle.numerals.proofs.Spelling.{under_ten_digits}

pub numeral_model : IsNumeralModel AllDigits (digits_value 10)
numeral_model = numerals_by_value AllDigits tells_by_index

pub plain_small : (max_digits : ℕ) (bytes : List ℕ) → IsPlain max_digits bytes → digits_value 10 bytes < 10 ^ 10
plain_small max_digits bytes p = digits_value_short numeral_model bytes 10 p.digits p.sized.short

alone : (bytes : List ℕ) → 0 < length bytes → (HasLeadingZero bytes → ⊥) → get_or bytes 0 0 ≡ 48 → length bytes ≡ 1
alone bytes some single z = ⊎_elim (λ l. absurd (single (l, z))) (λ l. omega arith) (cases_lt 1 (length bytes))

-- plain digits write their value
pub plain_writes : (max_digits : ℕ) (bytes : List ℕ) → IsPlain max_digits bytes → Writes max_digits (digits_value 10 bytes) bytes
plain_writes max_digits bytes p = record {
  written = sym (decimal-digits_value numeral_model bytes p.digits (omega (arith, p.sized.some)) (alone bytes (omega (arith, p.sized.some)) p.no_lead) (omega (arith, plain_small max_digits bytes p)));
  within = p.sized.within;
  short = p.sized.short;
}

-- no 0 stands in front of the written digits of a number, unless alone
no_zero : (n : ℕ) → n < 10 ^ 10 → HasLeadingZero (decimal n) → ⊥
no_zero n h z = ⊎_elim
    (λ l. omega (arith, ap length (decimal_digit n (omega arith)), z.0))
    (λ l. omega (arith, first_decimal n (omega arith) (omega arith), z.1))
    (cases_lt n 1)

-- bytes that write a number are plain digits, and it is their value
pub writes_plain : (max_digits n : ℕ) (bytes : List ℕ) → Writes max_digits n bytes → IsPlain max_digits bytes × (n ≡ digits_value 10 bytes)
writes_plain max_digits n bytes w =
    let e : bytes ≡ decimal n = w.written in
    let small : n < 10 ^ 10 = under_ten_digits n (omega (arith, ap length e, w.short)) in (
      record {
        digits = subst AllDigits (sym e) (digits_decimal numeral_model n (omega arith));
        sized = record { some = omega (arith, ap length e, decimal_nonempty n (omega arith)); within = w.within; short = w.short };
        no_lead = subst (λ (b : List ℕ). HasLeadingZero b → ⊥) (sym e) (no_zero n small);
      },
      sym (ap (digits_value 10) e ∙ digits_value-decimal numeral_model n (omega arith)),
    )

-- so the digits of a number that has at most 10 are plain
pub decimal_plain : (n : ℕ) → length (decimal n) ≤ 10 → IsPlain 10 (decimal n)
decimal_plain n short = (writes_plain 10 n (decimal n) record { written = refl; within = short; short = short }).0
