-- The meaning of a brake by its top speed and the stop that each question is worked out from.
use Rattle.std.specs.Prelude.{ℕ}
use Rattle.braking.specs.Meaning.{Meaning, Question}
use Rattle.stopping.specs.Stops.{Stop, net_exact, verdict}

abbrev pub meaning_by : ℕ → (Question → Stop) → Meaning
meaning_by top stop = record {
  top = top;
  deceleration = λ q. net_exact (stop q);
  verdict = λ q. verdict (stop q);
}
