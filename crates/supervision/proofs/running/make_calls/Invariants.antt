use Rattle.std.proofs.Common.{◌≡◌, ℕ, ◌≤◌, take, drop}
use Rattle.supervision.proofs.Follows.{Followed}
use Rattle.supervision.proofs.running.make_calls.Given as goal

abbrev pub invariant-loop-i : goal.invariant-loop-i
invariant-loop-i g l = record {
  followed : Followed g.M.BrakingModel.meaning l.initial.mission l.mission l.initial.lists l.lists (take l.i l.calls) (take l.i l.records);
  rest : (n : ℕ) → l.i ≤ n → drop n l.records ≡ drop n l.initial.records;
}
