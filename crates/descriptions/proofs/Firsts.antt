-- Where a byte stands first, and where it stands nowhere.
use Rattle.std.proofs.Common.{◌≡◌, ℕ, ◌<◌, ◌≤◌, List, length, get_or, Some, None, position, ◌==◌, sym, arith}
use Rattle.std.specs.List.{position_or_len}
use Rattle.std.proofs.lemmas.Bool.{eqb-true, eqb-false}
use Rattle.std.proofs.lemmas.Bool.Decides.{nat_tests}
use Rattle.std.proofs.lemmas.List.Quantifiers.{position-Some}
use Rattle.std.proofs.lemmas.List.Sums.{fails_before_first}

-- n is the first index at which the byte stands
pub record First (sign : ℕ) (bytes : List ℕ) (n : ℕ) : Type 0 where
  pub within : n < length bytes
  pub here : get_or bytes n 0 ≡ sign
  pub none_before : (k : ℕ) → k < n → get_or bytes k 0 ≡ sign → ⊥

pub first : (sign : ℕ) (bytes : List ℕ) (n : ℕ) → Some n ≡ position (λ b. b == sign) bytes → First sign bytes n
first sign bytes n e =
    let p = position-Some (λ b. b == sign) bytes n 0 (sym e) in
    record { within = p.0; here = eqb-true _ _ p.1; none_before = λ k h. eqb-false _ _ (p.2 k h) }

pub nowhere : (sign : ℕ) (bytes : List ℕ) → None ≡ position (λ b. b == sign) bytes → (k : ℕ) → k < length bytes → get_or bytes k 0 ≡ sign → ⊥
nowhere sign bytes e k h f =
    let last : length bytes ≤ position_or_len (λ b. b == sign) bytes = grind (arith, nat_tests) in
    eqb-false _ _ (fails_before_first (λ b. b == sign) bytes k 0 (omega arith)) f
