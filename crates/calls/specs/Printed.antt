-- How a call is printed.
use Rattle.std.specs.Prelude.{ℕ, List, ◌++◌, decimal, codes}
use Rattle.std.specs.Fmt.{signed_decimal}
use Rattle.calls.specs.declared.call.Call.{Call}
use Rattle.calls.specs.declared.call.Call.TheVariants.{Slope, Announce, Withdraw, Ceiling, Lift, Sample, Release}

abbrev pub call_text : Call → List ℕ
call_text (Slope place grade) = codes "slope place=" ++ (decimal place.millimetres ++ (codes " grade=" ++ signed_decimal grade.thousandths))
call_text (Announce n point distance speed) =
    codes "announce number=" ++ (decimal n ++ (codes " point=" ++ (decimal point.millimetres ++ (codes " distance=" ++ (decimal distance.millimetres ++ (codes " speed=" ++ decimal speed.tenths))))))
call_text (Withdraw n) = codes "withdraw number=" ++ decimal n
call_text (Ceiling place speed) = codes "ceiling place=" ++ (decimal place.millimetres ++ (codes " speed=" ++ decimal speed.tenths))
call_text (Lift place) = codes "lift place=" ++ decimal place.millimetres
call_text (Sample place speed) = codes "sample place=" ++ (decimal place.millimetres ++ (codes " speed=" ++ decimal speed.tenths))
call_text Release = codes "release"
