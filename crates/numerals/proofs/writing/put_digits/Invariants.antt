-- What stands after each turn.
use Rattle.std.proofs.Common.{◌≡◌, ◌-◌, ◌^◌, ◌<◌, ◌≤◌, ◌++◌, take, drop, decimal}
use Rattle.numerals.proofs.writing.put_digits.Given as goal

-- The digits from `place` on are written, and what is left of the number has those before it.
abbrev pub invariant-loop-place : goal.invariant-loop-place
invariant-loop-place l =
    (l.left < 2 ^ 64) × (l.at ≤ l.place) × (l.place ≤ l.end) × (0 < l.place - l.at → decimal l.left ≡ take (l.place - l.at) (decimal l.number))
    × (l.out ≡ take l.place l.initial.out ++ (drop (l.place - l.at) (decimal l.number) ++ drop l.end l.initial.out))
