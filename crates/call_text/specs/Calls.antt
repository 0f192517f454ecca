-- The kinds of call, and a call as a kind with the values of its fields.
use Rattle.std.specs.Prelude.{ℕ, List, [], ◌∷◌, pos, negsuc, codes}
use Rattle.calls.specs.declared.call.Call.{Call}
use Rattle.calls.specs.declared.call.Call.TheVariants.{Slope, Announce, Withdraw, Ceiling, Lift, Sample, Release}
use Rattle.descriptions.specs.Rows.{PlainRow, number, signed}
use Rattle.descriptions.specs.declared.number_range.NumberRange.{NumberRange}
use Rattle.descriptions.specs.declared.value.Value.{Value}
use Rattle.descriptions.specs.declared.value.Value.TheVariants.{Number}
use Rattle.call_text.specs.Kinds.{PlainCallKind}

-- Any number that ten digits write, below 0 or not.
abbrev pub ten_digits : NumberRange
ten_digits = record { max_digits = 10; least = negsuc 9999999998; greatest = pos 9999999999; step = 1 }

-- A place or distance in mm, a speed in tenths of km/h: not below 0.
abbrev pub amount : (key : List ℕ) → PlainRow
amount key = record { key = key; kind = number ten_digits }

-- A grade in thousandths, below 0 or not.
abbrev pub grade : PlainRow
grade = record { key = codes "grade"; kind = signed ten_digits }

-- The number of a target, up to 65,535.
abbrev pub target : PlainRow
target = record { key = codes "number"; kind = number (record { max_digits = 10; least = pos 0; greatest = pos 65535; step = 1 }) }

-- What a ceiling and a sample state.
abbrev pub place_and_speed : List PlainRow
place_and_speed = amount (codes "place") ∷ amount (codes "speed") ∷ []

-- A value out of its range is refused with 4.
abbrev pub kind : (word : List ℕ) → List PlainRow → PlainCallKind
kind word fields = record { word = word; fields = fields; range_number = 4 }

abbrev pub call_kinds : List PlainCallKind
call_kinds =
    kind (codes "slope") (amount (codes "place") ∷ grade ∷ [])
    ∷ kind (codes "announce") (target ∷ amount (codes "point") ∷ amount (codes "distance") ∷ amount (codes "speed") ∷ [])
    ∷ kind (codes "withdraw") (target ∷ [])
    ∷ kind (codes "ceiling") place_and_speed
    ∷ kind (codes "lift") (amount (codes "place") ∷ [])
    ∷ kind (codes "sample") place_and_speed
    ∷ kind (codes "release") []
    ∷ []

-- The number of a call's kind, and the values of its fields.
abbrev pub parts_of : Call → ℕ × List Value
parts_of (Slope place grade) = (0, Number (pos place.millimetres) ∷ Number grade.thousandths ∷ [])
parts_of (Announce n point distance speed) = (1, Number (pos n) ∷ Number (pos point.millimetres) ∷ Number (pos distance.millimetres) ∷ Number (pos speed.tenths) ∷ [])
parts_of (Withdraw n) = (2, Number (pos n) ∷ [])
parts_of (Ceiling place speed) = (3, Number (pos place.millimetres) ∷ Number (pos speed.tenths) ∷ [])
parts_of (Lift place) = (4, Number (pos place.millimetres) ∷ [])
parts_of (Sample place speed) = (5, Number (pos place.millimetres) ∷ Number (pos speed.tenths) ∷ [])
parts_of Release = (6, [])
