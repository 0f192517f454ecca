-- How the three distances and the answers to questions are printed.
use Rattle.std.specs.Prelude.{ℕ, List, ◌++◌, Some, None, Option, Ok, Err, Result, decimal, codes}
use Rattle.braking.specs.declared.distances.Distances.{Distances}
use Rattle.braking.specs.declared.refusal.Refusal.{Refusal}
use Rattle.braking.specs.Refusals.{refusal_text}

abbrev pub distances_text : Distances → List ℕ
distances_text d =
    codes "control=" ++ (decimal d.control.millimetres ++ (codes " warning=" ++ (decimal d.warning.millimetres ++ (codes " nominal=" ++ decimal d.nominal.millimetres))))

-- How an answer is printed: the distances, that the brake is too weak, or the refusal.
abbrev pub answer_text : Result (Option Distances) Refusal → List ℕ
answer_text (Ok (Some d)) = distances_text d
answer_text (Ok None) = codes "weak"
answer_text (Err r) = refusal_text r
