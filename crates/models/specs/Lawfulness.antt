-- Both models keep the laws of a braking model, over every admissible sheet and every question.
use Rattle.std.specs.Prelude.{◌≡◌, ℕ, ◌≤◌, Bool, true, List, [], ◌∷◌, nat_lt}
use Rattle.std.proofs.Common.{le_trans, arith, lit<}
use Rattle.std.proofs.lemmas.Bool.{cond_both}
use Rattle.units.specs.declared.limits.TheConstants.{MAX_SPEED}
use Rattle.units.specs.Fractions.{Fraction, whole, ratio, ◌≼◌, ◌≺◌}
use Rattle.braking.specs.Meaning.{Question, Asked, Binds}
use Rattle.braking.specs.Laws.{Lawful}
use Rattle.sheet.specs.Ranges.{admissible}
use Rattle.sheet.proofs.Limits.{limits}
use Rattle.sheet.specs.declared.words.Model.{Model}
use Rattle.sheet.specs.declared.words.Model.TheVariants.{Scmt, Etcs}
use Rattle.sheet.specs.declared.words.Regime.{Regime}
use Rattle.sheet.specs.declared.words.Regime.TheVariants.{Operation, Trial}
use Rattle.sheet.specs.declared.values.Values.{Values}
use Rattle.stopping.specs.Factors.{Bounded, none, more, product, product_down, total_loss}
use Rattle.stopping.specs.Laws.{StopsUncut}
use Rattle.stopping.specs.Stops.{Limited, Near}
use Rattle.stopping.proofs.Gradients.{slope_not_below, slope_not_above}
use Rattle.stopping.proofs.Losses.{near}
use Rattle.stopping.proofs.Lawfully.{lawful_by, uncut_by}
use Rattle.models.specs.Formulas.{top, scmt_factor, fading_factor, high_speed_factor, base_deceleration, factors}
use Rattle.models.specs.Meanings.{stop_for, meaning_of}
use Rattle.models.specs.Vl.{vl}
use Rattle.models.specs.PipeTimes.{reaction_bounded}

pub top_bounded : (m : Model) (r : Regime) → top m r ≤ MAX_SPEED.tenths
top_bounded Scmt Operation = omega arith
top_bounded Scmt Trial = omega arith
top_bounded Etcs Operation = omega arith
top_bounded Etcs Trial = omega arith

-- a factor that holds only sometimes is at most a bound of at least 1 that it has then
scmt_factor_bounded : (m : Model) (b : Bool) (f bound : Fraction) → f ≼ bound → whole 1 ≼ bound → scmt_factor m b f ≼ bound
scmt_factor_bounded Scmt b f bound h one = cond_both b f (whole 1) (λ (g : Fraction). g ≼ bound) (λ e. h) (λ e. one)
scmt_factor_bounded Etcs b f bound h one = one

bounds : List Fraction
bounds = whole 1 ∷ ratio 3 2 ∷ ratio 3 2 ∷ whole 1 ∷ whole 1 ∷ []

factors_bounded : (m : Model) (v : Values) (V V0 : ℕ) → v.kr ≤ 150 → V ≤ 4000 → Bounded (factors m v V V0) bounds
unfolding factors bounds
factors_bounded m v V V0 kr slow =
    more (scmt_factor_bounded m (nat_lt (vl v.lambda) V) (fading_factor v.lambda V) (whole 1) (omega arith) (omega arith))
    (more (omega arith)
    (more (scmt_factor_bounded m (nat_lt 1500 V) (high_speed_factor V) (ratio 3 2) (omega arith) (omega arith))
    (more (scmt_factor_bounded m (nat_lt 2600 V) (ratio 80 100) (whole 1) (omega arith) (omega arith))
    (more (omega arith) none))))

few : total_loss (whole 0) bounds ≺ whole 9
unfolding bounds
few = lit< tt

module _ (m : Model) (v : Values) (valid : admissible v ≡ true) where
  pub braking_near : (V V0 : ℕ) → V ≤ 4000 → Near (product (whole (base_deceleration v.lambda)) (factors m v V V0)) (product_down (base_deceleration v.lambda) (factors m v V V0))
  braking_near V V0 slow = near (base_deceleration v.lambda) (factors m v V V0) bounds (factors_bounded m v V V0 (limits v valid).kr_most slow) few

  stop_limited : (q : Question) → Asked (top m v.regime) q → Binds (meaning_of m v) q → Limited (stop_for m v q)
  stop_limited q asked binds = record {
    slow = le_trans asked.slow (top_bounded m v.regime);
    target_slow = le_trans asked.target_slow (top_bounded m v.regime);
    brief = reaction_bounded m v q.speed q.target_speed (limits v valid);
    not_steeper_down = slope_not_below q.grade asked.not_below;
    not_steeper_up = slope_not_above q.grade asked.not_above;
    warning_brief = (limits v valid).tw;
    hysteresis_brief = (limits v valid).ti;
  }

  stop_near : (q : Question) → Asked (top m v.regime) q → Binds (meaning_of m v) q → Near (stop_for m v q).braking (stop_for m v q).rounded
  stop_near q asked binds = braking_near q.speed q.target_speed (le_trans asked.slow (top_bounded m v.regime))

  pub model_lawful : Lawful (meaning_of m v)
  model_lawful = lawful_by (top m v.regime) (stop_for m v) (top_bounded m v.regime) stop_limited stop_near

  pub stops_uncut : StopsUncut (top m v.regime) (stop_for m v)
  stops_uncut = uncut_by (top m v.regime) (stop_for m v) (top_bounded m v.regime) stop_limited stop_near
