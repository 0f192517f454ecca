use Rattle.std.proofs.Common.{◌≡◌, ℕ, ◌*◌, ◌<◌, ◌≤◌, true, false, cond, ◌⊎◌, ℤ, pos, negsuc, ◌-ℤ◌, ◌*ℤ◌, nat_abs, ◌≤ℤ◌, ◌∙◌, inl, inr, arith, w64, SFits, to_z, of_z}
use lib.Signed.{lt_z, mag}
use Rattle.std.specs.Int.{int_max}
use Rattle.std.proofs.lemmas.Int.{ints, to_z-of_z, clamps}
use Rattle.units.specs.Rounding.{Floored}
use Rattle.units.specs.Fractions.{whole}
use Rattle.stopping.specs.Stops.{Stop, speed_reached_up}
use Rattle.stopping.specs.Steps.{stop_of}
use Rattle.stopping.specs.declared.stop.Stop.{Stop as StopStruct}
use Rattle.stopping.specs.declared.speed_loss.SpeedLoss.{SpeedLoss}
use Rattle.stopping.proofs.Limits.{limited}
use Rattle.stopping.proofs.Reaching.{is_reached_up, reached_up_bounded}
use Rattle.stopping.proofs.stop.Stop.speed_reached.Goals as goal

one_of_two : (a b m : ℤ) → m ≡ int_max a b → (m ≡ a) ⊎ (m ≡ b)
one_of_two a b m e = elim (lt_z b a) as (λ v. m ≡ cond v a b → (m ≡ a) ⊎ (m ≡ b)) [ true ↦ inl | false ↦ inr ] e

loss_fits : (q : ℤ) → negsuc 907199 ≤ℤ q → q ≤ℤ pos 907200 → SFits w64 q
loss_fits q low high = omega (arith, ints)

left_fits : (V : ℕ) (q : ℤ) → V ≤ 4000 → negsuc 907199 ≤ℤ q → q ≤ℤ pos 907200 → SFits w64 (pos (1000 * V) -ℤ q)
left_fits V q slow low high = omega (arith, ints)

uncast_speed : (V : ℕ) → V ≤ 4000 → to_z w64 (of_z w64 (pos 1000 *ℤ to_z w64 V)) ≡ pos (1000 * V)
uncast_speed V h = omega (arith, ints)

target_uncast : (V t : ℕ) → V ≤ 4000 → t ≡ 1000 * V → to_z w64 t ≡ pos (1000 * V)
target_uncast V t h is = omega (arith, ints)

uncast_left : (V : ℕ) (q : ℤ) → V ≤ 4000 → negsuc 907199 ≤ℤ q → q ≤ℤ pos 907200 →
    to_z w64 (of_z w64 (to_z w64 (of_z w64 (pos 1000 *ℤ to_z w64 V)) -ℤ to_z w64 (of_z w64 q))) ≡ pos (1000 * V) -ℤ q
uncast_left V q slow low high =
    let e : to_z w64 (of_z w64 q) ≡ q = to_z-of_z w64 q (loss_fits q low high) in
    simp (uncast_speed V slow, e) (to_z-of_z w64 _ (left_fits V q slow low high))

-- what is cast back to a number is the larger of two, of which one is not below zero
uncast_maximum : (m : ℤ) (n : ℕ) → mag m < 9223372036854775808 → pos n ≤ℤ m → pos (nat_abs (to_z w64 (of_z w64 m))) ≡ m
uncast_maximum (pos a) n h k = omega (arith, ints)
uncast_maximum (negsuc a) n h k = omega (arith, ints)

-- what is returned, of the loss and the larger of what is left and the target speed
facts : (self : StopStruct) (loss : SpeedLoss) (t : ℕ) (m : ℤ) → Floored (pos (9 * self.reaction.time.ticks) *ℤ self.slope.units) 250000000000 loss.fine_steps → t ≡ 1000 * self.target_speed.tenths → mag m < 9223372036854775808 →
    m ≡ int_max (to_z w64 (of_z w64 (to_z w64 (of_z w64 (pos 1000 *ℤ to_z w64 self.speed.tenths)) -ℤ to_z w64 (of_z w64 loss.fine_steps)))) (to_z w64 t) →
    record { value : nat_abs (to_z w64 (of_z w64 m)) ≡ speed_reached_up (stop_of self (whole 0)); bounded : nat_abs (to_z w64 (of_z w64 m)) ≤ 5000000; reaches : 1000 * self.target_speed.tenths ≤ nat_abs (to_z w64 (of_z w64 m)) }
facts self loss t m f is-t fits cast =
    let s : Stop = stop_of self (whole 0) in
    let q : ℤ = loss.fine_steps in
    let is-left = uncast_left s.speed q self.slow loss.not_below loss.not_above in
    let is-target = target_uncast s.target_speed t self.target_slow is-t in
    let e = simp (is-left, is-target) at cast in
    let low : pos (1000 * s.target_speed) ≤ℤ m = omega (arith, ints, clamps) in
    let least : (pos (1000 * s.speed) -ℤ q) ≤ℤ m = omega (arith, ints, clamps) in
    let is : pos (nat_abs (to_z w64 (of_z w64 m))) ≡ m = uncast_maximum m (1000 * s.target_speed) fits low in
    let r : ℕ = nat_abs (to_z w64 (of_z w64 m)) in
    let reaches : 1000 * s.target_speed ≤ r = omega (arith, ints, is, low) in
    let either : (pos r ≡ pos (1000 * s.speed) -ℤ q) ⊎ (r ≡ 1000 * s.target_speed) =
    elim (one_of_two (pos (1000 * s.speed) -ℤ q) (pos (1000 * s.target_speed)) m e) [ inl a ↦ inl (is ∙ a) | inr b ↦ inr (omega (arith, ints, is ∙ b)) ] in
    let value = is_reached_up s q r f reaches (rw is least) either in
    record { value = value; bounded = rw value (reached_up_bounded s (limited self (whole 0))); reaches = reaches }

pub invariant_of-result : goal.invariant_of-result
invariant_of-result c =
    let all = facts c.args.self.now c.in_fine_steps.result c.target_fine_speed-target.result.fine_steps c.max.result (rw c.exact_loss.ensures at c.in_fine_steps.ensures) c.target_fine_speed-target.ensures c.max.type_inv c.max.ensures.value in
    record { bounded = all.bounded }

pub returns : goal.returns
returns c =
    let all = facts c.args.self.now c.in_fine_steps.result c.target_fine_speed-target.result.fine_steps c.max.result (rw c.exact_loss.ensures at c.in_fine_steps.ensures) c.target_fine_speed-target.ensures c.max.type_inv c.max.ensures.value in
    record { value = all.value; reaches = all.reaches }
