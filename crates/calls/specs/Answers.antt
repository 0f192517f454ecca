-- What a call is answered, and the number of each answer.
use Rattle.std.specs.Prelude.{ℕ, Ok, Err, Option, Result}
use Rattle.calls.specs.Refusals.{number}
use Rattle.calls.specs.declared.refusal.Refusal.{Refusal}
use Rattle.calls.specs.declared.zone.Zone.{Zone}

-- Accepted, with its zone where it is a sample, or the refusal.
abbrev pub Answer : Type 0
Answer = Result (Option Zone) Refusal

-- 0 where it is accepted, else the refusal's.
abbrev pub answer_number : Answer → ℕ
answer_number (Ok _) = 0
answer_number (Err r) = number r
