-- How what is shown of a line is printed.
use Rattle.std.specs.Prelude.{ℕ, List, ◌++◌, Some, None, Option, decimal, codes}
use Rattle.calls.specs.Phases.{phase_word}
use Rattle.calls.specs.Zones.{zone_number}
use Rattle.calls.specs.declared.zone.Zone.{Zone}
use Rattle.session.specs.declared.shown.Shown.{Shown}

-- The number of an accepted sample's zone, else a dash.
abbrev pub zone_text : Option Zone → List ℕ
zone_text (Some z) = decimal (zone_number z)
zone_text None = codes "-"

abbrev pub shown_text : Shown → List ℕ
shown_text s = codes "answer=" ++ (decimal s.number ++ (codes " phase=" ++ (phase_word s.phase ++ (codes " zone=" ++ zone_text s.zone))))
