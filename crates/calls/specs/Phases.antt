-- What each phase asks of the train, and its word.
use Rattle.std.specs.Prelude.{Bool, true, false, List, ℕ, codes}
use Rattle.calls.specs.declared.phase.Phase.{Phase}
use Rattle.calls.specs.declared.phase.Phase.TheVariants.{Free, Warning, Emergency}

-- Warning and emergency cut traction.
abbrev pub cuts_traction : Phase → Bool
cuts_traction Free = false
cuts_traction Warning = true
cuts_traction Emergency = true

-- Emergency applies the emergency brake.
abbrev pub applies_brake : Phase → Bool
applies_brake Free = false
applies_brake Warning = false
applies_brake Emergency = true

-- The word of each phase.
abbrev pub phase_word : Phase → List ℕ
phase_word Free = codes "free"
phase_word Warning = codes "warning"
phase_word Emergency = codes "emergency"
