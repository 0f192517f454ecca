-- Where an announced target stands, if anywhere.
use Rattle.std.specs.Prelude.{◌≡◌, ℕ, true, false, Some, None, Option}
use Rattle.sheet.specs.declared.values.Values.{Values}
use Rattle.units.specs.declared.quantities.Distance.{Distance}
use Rattle.history.specs.History.{target_place}
use Rattle.history.specs.Step.{is_beyond}

-- None exactly where it is beyond the furthest place, else the target's place.
abbrev pub Placing : Values → (point distance : ℕ) → Option Distance → Type 0
Placing sheet point distance None = is_beyond point distance ≡ true
Placing sheet point distance (Some p) = (is_beyond point distance ≡ false) × (p.millimetres ≡ target_place sheet point distance)
