-- The zone of a target by what a model answers to its question.
use Rattle.std.specs.Prelude.{ℕ, Ok, Err, Some, None, Result, Option}
use Rattle.braking.specs.declared.distances.Distances.{Distances}
use Rattle.braking.specs.declared.refusal.Refusal.{Refusal}
use Rattle.braking.specs.declared.refusal.Refusal.TheVariants.{TooFast, GradeOutOfLimits, NotBinding}
use Rattle.calls.specs.declared.zone.Zone.{Zone}
use Rattle.calls.specs.declared.zone.Zone.TheVariants.{Clear, Control}
use Rattle.history.specs.Zones.{zone_within}

-- A target does not bind where the model says so, or where it allows more than the model's top speed, which no train that is asked about exceeds.
abbrev pub judged_zone : Result (Option Distances) Refusal → (front place : ℕ) → Zone
judged_zone (Ok (Some d)) front place = zone_within d.control.millimetres d.warning.millimetres d.nominal.millimetres front place
judged_zone (Ok None) front place = Control
judged_zone (Err GradeOutOfLimits) front place = Control
judged_zone (Err TooFast) front place = Clear
judged_zone (Err NotBinding) front place = Clear
