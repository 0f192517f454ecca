use Rattle.std.proofs.Common.{ℕ, ◌-◌, ◌*◌, ◌≤◌, mul-le-mul, arith}
use Rattle.units.proofs.Quotients.{ceiling_at_most}
use Rattle.stopping.specs.Stops.{natural, computed_reaction, computed_braking, computed_lead}
use Rattle.stopping.proofs.stop.Stop.distances.Goals as goal

-- the terms by themselves are far from the end of 64 bits
reaction_small : (T B : ℕ) → T ≤ 6000000000 → B ≤ 5000000 → computed_reaction T B ≤ 30000000000000001
reaction_small T B h k = omega (arith, ceiling_at_most (T * B) 3600000000, mul-le-mul h k)

braking_small : (B v D : ℕ) → B ≤ 5000000 → computed_braking B v D ≤ 15625000000000001
braking_small B v D k = omega (arith, ceiling_at_most (625 * (B * B - v * v)) (162 * D), mul-le-mul k k)

lead_small : (t B : ℕ) → t ≤ 100 → B ≤ 5000000 → computed_lead t B ≤ 500000001
lead_small t B h k = omega (arith, ceiling_at_most (t * B) 360, mul-le-mul h k)

pub add-warning-requires : goal.add-warning-requires
add-warning-requires c =
    omega (
      arith,
      reaction_small c.args.self.now.reaction.time.ticks c.args.reached.speed.fine_steps c.args.self.now.reaction.brief c.args.reached.bounded,
      braking_small c.args.reached.speed.fine_steps c.target_fine_speed.result.fine_steps (natural c.args.net.deceleration.units) c.args.reached.bounded,
      lead_small c.args.self.now.lead.warning.tenths c.args.reached.speed.fine_steps c.args.self.now.lead.warning.brief c.args.reached.bounded,
    )

pub add-nominal-requires : goal.add-nominal-requires
add-nominal-requires c =
    omega (
      arith,
      reaction_small c.args.self.now.reaction.time.ticks c.args.reached.speed.fine_steps c.args.self.now.reaction.brief c.args.reached.bounded,
      braking_small c.args.reached.speed.fine_steps c.target_fine_speed.result.fine_steps (natural c.args.net.deceleration.units) c.args.reached.bounded,
      lead_small c.args.self.now.lead.warning.tenths c.args.reached.speed.fine_steps c.args.self.now.lead.warning.brief c.args.reached.bounded,
      lead_small c.args.self.now.lead.hysteresis.tenths c.args.reached.speed.fine_steps c.args.self.now.lead.hysteresis.brief c.args.reached.bounded,
    )
