-- The formulas of the two models, over the values of a sheet. V is the speed and V0 the target speed, in tenths of km/h.
use Rattle.std.specs.Prelude.{ℕ, ◌+◌, ◌-◌, ◌*◌, max, Bool, if◌then◌else◌, ◌&&◌, List, [], ◌∷◌, nat_lt}
use Rattle.units.specs.Fractions.{Fraction, whole, ratio}
use Rattle.sheet.specs.declared.words.Model.{Model}
use Rattle.sheet.specs.declared.words.Model.TheVariants.{Scmt, Etcs}
use Rattle.sheet.specs.declared.words.Regime.{Regime}
use Rattle.sheet.specs.declared.words.Regime.TheVariants.{Operation, Trial}
use Rattle.sheet.specs.declared.words.Service.{Service}
use Rattle.sheet.specs.declared.words.Service.TheVariants.{Passenger, Goods}
use Rattle.sheet.specs.declared.words.LengthChoice.{LengthChoice}
use Rattle.sheet.specs.declared.words.LengthChoice.TheVariants.{Fixed, Train}
use Rattle.sheet.specs.declared.values.Values.{Values}
use Rattle.models.specs.Vl.{vl}

-- The top speed.
abbrev pub top : Model → Regime → ℕ
top Scmt Operation = 2600
top Scmt Trial = 3100
top Etcs Operation = 3300
top Etcs Trial = 4000

-- N, the length in m that the brake pipe is taken to have: by the choice, the brake and the train's length.
abbrev pub pipe_length : LengthChoice → Service → ℕ → ℕ
pipe_length Train Passenger length = length
pipe_length Train Goods length = length
pipe_length Fixed Passenger length = 650
pipe_length Fixed Goods length = 1000

-- tV: 3.5 s and 0.15 s times the square of n / 100, in millionths of a second.
abbrev pub passenger_time : ℕ → ℕ
passenger_time n = 3500000 + 15 * (n * n)

-- tM: 13.5 s and 0.04 s times the square of n / 100, in millionths of a second.
abbrev pub goods_time : ℕ → ℕ
goods_time n = 13500000 + 4 * (n * n)

-- The time of a pipe of n m by the brake, where the electro-pneumatic brake works (ep 1) or not (ep 0).
abbrev pub pipe_time_by : Service → ℕ → ℕ → ℕ
pipe_time_by Passenger n ep = passenger_time (n * (1 - ep))
pipe_time_by Goods n ep = max (passenger_time (n * (1 - ep))) (goods_time n)

abbrev pub pipe_time : Values → ℕ → ℕ
pipe_time v ep = pipe_time_by v.brake (pipe_length v.lfren v.brake v.length) ep

-- The share of the pipe time that scmt counts near the target speed, in hundredths: by the train, then its brake.
abbrev pub near_share : Service → Service → ℕ
near_share Passenger Passenger = 0
near_share Passenger Goods = 0
near_share Goods Passenger = 30
near_share Goods Goods = 30

-- How far above the target speed that reaches, in tenths of km/h.
abbrev pub near_width : Service → Service → ℕ
near_width Passenger Passenger = 300
near_width Passenger Goods = 300
near_width Goods Passenger = 200
near_width Goods Goods = 150

-- Dt of scmt, in hundredths: less than 100 only near a target speed above 0.
abbrev pub scmt_share : (train brake : Service) (V V0 : ℕ) → ℕ
scmt_share train brake V V0 = if nat_lt 0 V0 && nat_lt V (V0 + near_width train brake) then near_share train brake else 100

-- Dt, in hundredths.
abbrev pub pipe_share : Model → Values → (V V0 : ℕ) → ℕ
pipe_share Scmt v V V0 = scmt_share v.train v.brake V V0
pipe_share Etcs v V V0 = 130

-- The electro-pneumatic brake is counted by etcs alone.
abbrev pub counted_ep : Model → Values → ℕ
counted_ep Scmt v = 0
counted_ep Etcs v = v.ep

-- h, in ticks.
abbrev pub delay : Model → ℕ
delay Scmt = 70000000
delay Etcs = 100000000

-- T, in ticks: a hundredth of a millionth of a second is a tick, so that nothing is rounded.
unfoldable pub reaction_time : Model → Values → (V V0 : ℕ) → ℕ
reaction_time m v V V0 = pipe_share m v V V0 * pipe_time v (counted_ep m v) + delay m

-- The deceleration of the brake before its factors, in units.
abbrev pub base_deceleration : ℕ → ℕ
base_deceleration lambda = 100 * (685 * lambda + 9400)

-- A factor of scmt where the test holds, else 1.
abbrev pub scmt_factor : Model → Bool → Fraction → Fraction
scmt_factor Scmt b f = if b then f else whole 1
scmt_factor Etcs b f = whole 1

abbrev pub fading_factor : (lambda V : ℕ) → Fraction
fading_factor lambda V = ratio (100000 - 21 * (V - vl lambda)) 100000

abbrev pub high_speed_factor : (V : ℕ) → Fraction
high_speed_factor V = ratio (8500 + V) 10000

abbrev pub target_factor : (V V0 : ℕ) → Fraction
target_factor V V0 = ratio (100 * V - 5 * V0) (100 * V)

-- The five factors, in order.
unfoldable pub factors : Model → Values → (V V0 : ℕ) → List Fraction
factors m v V V0 =
    scmt_factor m (nat_lt (vl v.lambda) V) (fading_factor v.lambda V)
    ∷ ratio v.kr 100
    ∷ scmt_factor m (nat_lt 1500 V) (high_speed_factor V)
    ∷ scmt_factor m (nat_lt 2600 V) (ratio 80 100)
    ∷ target_factor V V0
    ∷ []
