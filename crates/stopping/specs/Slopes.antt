-- What a grade adds to the deceleration.
use Rattle.std.specs.Prelude.{ℕ, if◌then◌else◌, ℤ, pos, negsuc, ◌*ℤ◌, int_le, int_lt}

-- The share of a grade that is counted on, in hundredths: 90 uphill, 100 from 0 down to -20, 110 from -21 down.
abbrev pub share_of : ℤ → ℕ
share_of grade = if int_lt (pos 0) grade then 90 else (if int_le (negsuc 19) grade then 100 else 110)

-- G, in units; 981 units are a hundredth of what one thousandth of grade does.
abbrev pub slope_of : ℤ → ℤ
slope_of grade = (pos (share_of grade) *ℤ grade) *ℤ pos 981
