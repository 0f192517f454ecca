use Rattle.std.proofs.Common.{◌≡◌, ℕ, ◌+◌, true, false, ℤ, pos, ◌+ℤ◌, sym, refl, ◌∙◌, Option, None, Some}
use lib.Signed.{lt_z}
use Rattle.braking.specs.Answers.{Says}
use Rattle.braking.specs.declared.distances.Distances.{Distances}
use Rattle.stopping.specs.Stops.{Stop, natural, target_fine_steps, speed_reached, speed_reached_up, net, computed_reaction, computed_braking, computed_lead, computed_distances, verdict}
use Rattle.stopping.specs.Steps.{stop_of}
use Rattle.stopping.proofs.Limits.{limited}
use Rattle.stopping.proofs.Losses.{factors_lose}
use Rattle.stopping.proofs.Margin.{lawful, uncut}
use Rattle.stopping.proofs.stop.Stop.steps.Goals as goal
use Rattle.stopping.proofs.stop.Stop.steps.Goals.{then-is_weak, else-is_weak}

says_weak : (s : Stop) (a : Option Distances) → lt_z (net s) (pos 500000) ≡ true → a ≡ None → Says (verdict s) a
unfolding verdict
says_weak s a e is = rw (is, e) tt

says_strong : (s : Stop) (a : Option Distances) (d : Distances) (B : ℕ) (D : ℤ) → lt_z (net s) (pos 500000) ≡ false → a ≡ Some d → B ≡ speed_reached_up s → D ≡ net s →
    d.control.millimetres ≡ computed_reaction s.reaction B + computed_braking B (target_fine_steps s) (natural D) →
    d.warning.millimetres ≡ d.control.millimetres + computed_lead s.warning B →
    d.nominal.millimetres ≡ d.warning.millimetres + computed_lead s.hysteresis B → Says (verdict s) a
unfolding verdict computed_distances
says_strong s a d B D e is is-B is-D control warning nominal =
    let first : d.control.millimetres ≡ (computed_distances s).control = rw (is-B, is-D) at control in
    let second : d.warning.millimetres ≡ (computed_distances s).warning = cc in
    let third : d.nominal.millimetres ≡ (computed_distances s).nominal = cc in
    rw (is, e) (first, second, third)

pub returns : goal.returns
unfolding speed_reached_up speed_reached
returns c =
    let self = c.args.self.now in
    let tested : c.is_weak.result ≡ lt_z (pos self.braking.units +ℤ self.slope.units) (pos 500000) = simp c.net-net.ensures at c.is_weak.ensures in
    record {
      steps = λ exact. record {
        reaction = refl;
        slope = refl;
        reached = c.speed_reached-reached.ensures.value;
        net = c.net-net.ensures;
        answer = elim c.if-is_weak.branch [
          | then-is_weak w ↦ says_weak (stop_of self exact) _ (sym tested ∙ w.if-is_weak.true) w.answer-is
          | else-is_weak w ↦
              says_strong (stop_of self exact) _ w.distances.result c.speed_reached-reached.result.speed.fine_steps c.net-net.result.units (sym tested ∙ w.if-is_weak.false) w.answer-is
              c.speed_reached-reached.ensures.value c.net-net.ensures w.distances.ensures.control w.distances.ensures.warning w.distances.ensures.nominal
        ];
      };
      lawful = λ exact near. lawful (stop_of self exact) (limited self exact) near;
      uncut = λ exact near. uncut (stop_of self exact) (limited self exact) near;
      factors = factors_lose;
    }
