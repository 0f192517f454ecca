-- The laws of taking and writing numbers together.
use Rattle.std.specs.Prelude.{◌≡◌, ℕ, ◌-◌, ◌^◌, ◌<◌, ◌≤◌, List, take, drop, Some, None, decimal, Option, IsSome}
use Rattle.numerals.specs.Writing.{NumberWritten}
use Rattle.numerals.specs.Taking.{DigitsTaken}
use Rattle.numerals.specs.declared.digits.Digits.{Digits}

-- n has at most `max_digits` digits, and at most 10.
pub record IsReadable (max_digits n : ℕ) : Type 0 where
  pub one : 1 ≤ max_digits
  pub within : n < 10 ^ max_digits
  pub short : n < 10 ^ 10

-- The digits of such a number are taken.
unfoldable pub TakesOwnDigits : Type 0
TakesOwnDigits = (max_digits n : ℕ) (r : Option Digits) → IsReadable max_digits n → DigitsTaken max_digits (decimal n) r → IsSome r

-- Digits were taken, and the only number that they write is n. So n is their value.
abbrev pub TakenAs : ℕ → Option Digits → Type 0
TakenAs n (Some d) = (m : ℕ) → d.bytes.now ≡ decimal m → m ≡ n
TakenAs n None = ⊥

-- The bytes from `at` to the end that writing such a number answers are taken as digits, and their value is the number.
unfoldable pub WrittenIsRead : Type 0
WrittenIsRead =
    (before after : List ℕ) (at n end max_digits : ℕ) (r : Option Digits) → IsReadable max_digits n → NumberWritten before at n after (Some end) → DigitsTaken max_digits (take (end - at) (drop at after)) r → TakenAs n r
