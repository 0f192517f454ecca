-- What the two models mean: the stop of a question by the formulas, and its verdict.
use Rattle.units.specs.Fractions.{whole}
use Rattle.braking.specs.Meaning.{Meaning, Question}
use Rattle.sheet.specs.declared.words.Model.{Model}
use Rattle.sheet.specs.declared.values.Values.{Values}
use Rattle.stopping.specs.Factors.{product, product_down}
use Rattle.stopping.specs.Slopes.{slope_of}
use Rattle.stopping.specs.Meanings.{meaning_by}
use Rattle.stopping.specs.Stops.{Stop}
use Rattle.models.specs.Formulas.{top, reaction_time, base_deceleration, factors}

-- d is the exact product over the factors and D the product rounded down after each, both with the slope.
abbrev pub stop_for : Model → Values → Question → Stop
stop_for m v q = record {
  speed = q.speed;
  target_speed = q.target_speed;
  reaction = reaction_time m v q.speed q.target_speed;
  slope = slope_of q.grade;
  braking = product (whole (base_deceleration v.lambda)) (factors m v q.speed q.target_speed);
  rounded = product_down (base_deceleration v.lambda) (factors m v q.speed q.target_speed);
  warning = v.tw;
  hysteresis = v.ti;
}

abbrev pub meaning_of : Model → Values → Meaning
meaning_of m v = meaning_by (top m v.regime) (stop_for m v)
