-- The times of the brake pipe and the reaction time are bounded.
use Rattle.std.specs.Prelude.{ℕ, ◌+◌, ◌-◌, ◌*◌, ◌≤◌, ◌&&◌, nat_lt}
use Rattle.std.proofs.Common.{mul-le-mul, arith}
use Rattle.std.proofs.lemmas.Bool.{cond_both}
use Rattle.sheet.specs.Limits.{Limits}
use Rattle.sheet.specs.declared.words.Model.{Model}
use Rattle.sheet.specs.declared.words.Model.TheVariants.{Scmt, Etcs}
use Rattle.sheet.specs.declared.words.Service.{Service}
use Rattle.sheet.specs.declared.words.Service.TheVariants.{Passenger, Goods}
use Rattle.sheet.specs.declared.words.LengthChoice.{LengthChoice}
use Rattle.sheet.specs.declared.words.LengthChoice.TheVariants.{Fixed, Train}
use Rattle.sheet.specs.declared.values.Values.{Values}
use Rattle.models.specs.Formulas.{pipe_length, pipe_time_by, near_share, near_width, pipe_share, counted_ep, delay, reaction_time}

pub square_small : (n : ℕ) → n ≤ 1000 → n * n ≤ 1000000
square_small n h = omega (arith, mul-le-mul h h)

pub filled_short : (n ep : ℕ) → n ≤ 1000 → n * (1 - ep) ≤ 1000
filled_short n ep h = let k : 1 - ep ≤ 1 = omega arith in omega (arith, mul-le-mul h k)

filled_square : (n ep : ℕ) → n ≤ 1000 → n * (1 - ep) * (n * (1 - ep)) ≤ 1000000
filled_square n ep h = square_small (n * (1 - ep)) (filled_short n ep h)

pub pipe_length_bounded : (choice : LengthChoice) (brake : Service) (length : ℕ) → length ≤ 1000 → pipe_length choice brake length ≤ 1000
pipe_length_bounded Train Passenger length h = h
pipe_length_bounded Train Goods length h = h
pipe_length_bounded Fixed Passenger length h = omega arith
pipe_length_bounded Fixed Goods length h = omega arith

pub pipe_time_bounded : (brake : Service) (n ep : ℕ) → n ≤ 1000 → pipe_time_by brake n ep ≤ 18500000
pipe_time_bounded Passenger n ep h = omega (arith, filled_square n ep h)
pipe_time_bounded Goods n ep h = omega (arith, filled_square n ep h, square_small n h)

near_share_small : (train brake : Service) → near_share train brake ≤ 130
near_share_small Passenger Passenger = omega arith
near_share_small Passenger Goods = omega arith
near_share_small Goods Passenger = omega arith
near_share_small Goods Goods = omega arith

pipe_share_small : (m : Model) (v : Values) (V V0 : ℕ) → pipe_share m v V V0 ≤ 130
pipe_share_small Scmt v V V0 =
    cond_both (nat_lt 0 V0 && nat_lt V (V0 + near_width v.train v.brake)) (near_share v.train v.brake) 100 (λ (n : ℕ). n ≤ 130) (λ e. near_share_small v.train v.brake) (λ e. omega arith)
pipe_share_small Etcs v V V0 = omega arith

delay_small : (m : Model) → delay m ≤ 100000000
delay_small Scmt = omega arith
delay_small Etcs = omega arith

pub reaction_bounded : (m : Model) (v : Values) (V V0 : ℕ) → Limits v → reaction_time m v V V0 ≤ 6000000000
unfolding reaction_time
reaction_bounded m v V V0 limits =
    let pipe = pipe_time_bounded v.brake (pipe_length v.lfren v.brake v.length) (counted_ep m v) (pipe_length_bounded v.lfren v.brake v.length limits.length) in
    omega (arith, mul-le-mul (pipe_share_small m v V V0) pipe, delay_small m)
