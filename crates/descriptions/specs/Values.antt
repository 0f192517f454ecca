-- The number that a value is.
use Rattle.std.specs.Prelude.{ℕ, cond, nat_lt, ℤ, pos, negsuc}
use Rattle.descriptions.specs.declared.value.Value.{Value}
use Rattle.descriptions.specs.declared.value.Value.TheVariants.{Word, Number}

-- A word is none.
abbrev pub whole_of : Value → ℤ
whole_of (Word n) = pos 0
whole_of (Number z) = z

-- A number that 16 bits hold, else 0.
abbrev pub held_in_16_bits : ℤ → ℕ
held_in_16_bits (pos n) = cond (nat_lt n 65536) n 0
held_in_16_bits (negsuc n) = 0
