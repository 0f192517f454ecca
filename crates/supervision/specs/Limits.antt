-- What is answered to the questions that a call's own numbers answer.
use Rattle.std.specs.Prelude.{◌≡◌, ℕ, Some, None, Ok, Err, Option, Result}
use Rattle.sheet.specs.declared.values.Values.{Values}
use Rattle.units.specs.declared.quantities.Distance.{Distance}
use Rattle.braking.specs.Meaning.{Meaning}
use Rattle.calls.specs.declared.refusal.Refusal.{Refusal}
use Rattle.history.specs.History.{announce, target_place}
use Rattle.history.specs.Step.{first, limits}

-- The refusal in a result, if there is one.
abbrev pub refusal_in : {X : Type 0} → Result X Refusal → Option Refusal
refusal_in (Ok _) = None
refusal_in (Err r) = Some r

-- Where an announced target stands, if it is within limits, whatever its number.
abbrev pub AnnouncedPlace : Values → Meaning → (point distance speed : ℕ) → Result Distance Refusal → Type 0
AnnouncedPlace sheet m point distance speed (Ok p) = ((n : ℕ) → first (limits m (announce n point distance speed)) ≡ None) × (p.millimetres ≡ target_place sheet point distance)
AnnouncedPlace sheet m point distance speed (Err r) = (n : ℕ) → first (limits m (announce n point distance speed)) ≡ Some r
