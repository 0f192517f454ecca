-- Runs worked out in numbers, and histories that the three lines rule out.
use Rattle.std.specs.Prelude.{◌≡◌, ◌*◌, cond, List, [], ◌∷◌, ◌++◌, map, pos, negsuc, int_lt, None, Ok}
use Rattle.std.proofs.Common.{lit<, lit≤, mul-le-mul_right}
use Rattle.units.specs.Fractions.{whole}
use Rattle.braking.specs.Meaning.{Meaning, weak, strong}
use Rattle.sheet.specs.declared.values.Values.{Values}
use Rattle.sheet.specs.declared.words.LengthChoice.TheVariants.{Fixed}
use Rattle.sheet.specs.declared.words.Model.TheVariants.{Scmt}
use Rattle.sheet.specs.declared.words.Regime.TheVariants.{Operation}
use Rattle.sheet.specs.declared.words.Service.TheVariants.{Passenger}
use Rattle.calls.specs.Answers.{answer_number}
use Rattle.calls.specs.declared.call.Call.{Call}
use Rattle.calls.specs.declared.phase.Phase.{Phase}
use Rattle.calls.specs.declared.phase.Phase.TheVariants.{Free, Warning, Emergency}
use Rattle.calls.specs.declared.record.Record.{Record}
use Rattle.history.specs.History.{History, slope, announce, withdraw, ceiling_from, lift, sample, release}
use Rattle.history.specs.Lines.{KeepsTheLines}
use Rattle.history.specs.Runs.{run}
use Rattle.history.specs.State.{empty_track, full_capacity, start}

-- A brake that stops in ten times the speed on the level or uphill, and is too weak on any fall.
abbrev pub tenfold : Meaning
tenfold = record {
  top = 500;
  deceleration = λ q. record { numerator = cond (int_lt q.grade (pos 0)) (pos 0) (pos 1000000); denominator = 1; positive = lit< tt };
  verdict = λ q. cond (int_lt q.grade (pos 0)) weak
      (strong (record {
        control = whole (10 * q.speed);
        warning = whole (12 * q.speed);
        nominal = whole (15 * q.speed);
        control_first = mul-le-mul_right 1 (mul-le-mul_right q.speed (lit≤ tt));
        nominal_last = mul-le-mul_right 1 (mul-le-mul_right q.speed (lit≤ tt));
      })
      (record {
        control = 10 * q.speed;
        warning = 12 * q.speed;
        nominal = 15 * q.speed;
        control_first = mul-le-mul_right q.speed (lit≤ tt);
        nominal_last = mul-le-mul_right q.speed (lit≤ tt);
      }));
}

-- A sheet of a train 1 m long, by which 10 percent of an announced distance are cut off; the rest of it does not matter here.
abbrev pub sheet : Values
sheet = record {
  model = Scmt;
  regime = Operation;
  train = Passenger;
  brake = Passenger;
  ep = 0;
  lambda = 100;
  length = 1;
  lfren = Fixed;
  kr = 100;
  tw = 20;
  ti = 30;
  eps = 10;
}

-- Two calls to set up, samples up to control, a release too soon, a sample in zone 0, a refused one behind it, a release, too fast,
-- the target withdrawn, a sample in zone 0, an accepted slope behind it, a release too late, and the sample and release again.
abbrev pub calls : List Call
calls = slope 0 (pos 4) ∷ announce 7 905 95 5 ∷ sample 0 20 ∷ sample 740 20 ∷ sample 751 20
    ∷ sample 789 20 ∷ sample 790 20 ∷ release ∷ sample 791 5 ∷ sample 791 4001 ∷ release
    ∷ sample 791 501 ∷ withdraw 7 ∷ sample 791 500 ∷ slope 5 (pos 0) ∷ release ∷ sample 791 500 ∷ release ∷ []

-- Two ceilings, and three that are refused: at a taken place, too fast, too far away; samples one mm before the first, at its place up to it, above it, 50 and 51 above,
-- 100 and 101 above one mm before the second, and at the second one above it; a release too soon, a sample at its speed, a release;
-- a lift where none stands, the first lifted, and no ceiling in its place; 101 above the second, it is lifted, a release too soon, a sample, a refused lift, a release.
abbrev pub ceiling_calls : List Call
ceiling_calls = ceiling_from 1000 200 ∷ ceiling_from 2000 300 ∷ ceiling_from 1000 0 ∷ ceiling_from 3000 501 ∷ ceiling_from 1000000001 501 ∷ sample 999 500 ∷ sample 1000 200 ∷ sample 1000 201
    ∷ sample 1000 250 ∷ sample 1000 251 ∷ sample 1999 300 ∷ sample 1999 301 ∷ sample 2000 301 ∷ release ∷ sample 2000 300 ∷ release ∷ lift 1500 ∷ lift 1000 ∷ sample 1000 500
    ∷ sample 2000 401 ∷ lift 2000 ∷ release ∷ sample 2000 500 ∷ lift 1000000001 ∷ release ∷ []

-- A track that rises from 500 to a crest at 3000, falls from there to 3500, and is level from there on. For a target at 2200: samples with the rear one mm short of the first section and at it, a release.
-- For a target at 5200: samples with the whole fall under the train, and with the rear at its foot, a release; samples with the rear on the last mm of the fall, and at its foot, a release.
abbrev pub crest_calls : List Call
crest_calls = slope 500 (pos 4) ∷ slope 3000 (negsuc 0) ∷ slope 3500 (pos 0) ∷ announce 7 2200 0 5 ∷ sample 1499 20 ∷ sample 1500 20 ∷ release
    ∷ withdraw 7 ∷ announce 7 5200 0 5 ∷ sample 3900 20 ∷ sample 4500 20 ∷ release ∷ sample 4499 20 ∷ sample 4500 20 ∷ release ∷ []

-- The history of these calls over tenfold, with 10 percent cut off.
abbrev pub run_of : List Call → History
run_of cs = run sheet tenfold (start (empty_track full_capacity)) cs

-- The answers' numbers and the phases after the calls: the target of the first run stands at 990.
pub record Worked : Type 0 where
  pub numbers : map (λ (e : Record). answer_number e.answer) (run_of calls)
      ≡ 0 ∷ 0 ∷ 0 ∷ 0 ∷ 0 ∷ 0 ∷ 0 ∷ 12 ∷ 0 ∷ 8 ∷ 0 ∷ 0 ∷ 0 ∷ 0 ∷ 0 ∷ 12 ∷ 0 ∷ 0 ∷ []
  pub phases : map (λ (e : Record). e.phase) (run_of calls)
      ≡ Free ∷ Free ∷ Free ∷ Free ∷ Warning ∷ Warning ∷ Emergency ∷ Emergency ∷ Emergency ∷ Emergency ∷ Free
      ∷ Emergency ∷ Emergency ∷ Emergency ∷ Emergency ∷ Emergency ∷ Emergency ∷ Free ∷ []
  pub ceiling_numbers : map (λ (e : Record). answer_number e.answer) (run_of ceiling_calls)
      ≡ 0 ∷ 0 ∷ 10 ∷ 8 ∷ 7 ∷ 0 ∷ 0 ∷ 0 ∷ 0 ∷ 0 ∷ 0 ∷ 0 ∷ 0 ∷ 12 ∷ 0 ∷ 0 ∷ 10 ∷ 0 ∷ 0 ∷ 0 ∷ 0 ∷ 12 ∷ 0 ∷ 7 ∷ 0 ∷ []
  pub ceiling_phases : map (λ (e : Record). e.phase) (run_of ceiling_calls)
      ≡ Free ∷ Free ∷ Free ∷ Free ∷ Free ∷ Free ∷ Free ∷ Free ∷ Free ∷ Warning ∷ Warning ∷ Emergency ∷ Emergency ∷ Emergency ∷ Emergency ∷ Free
      ∷ Free ∷ Free ∷ Free ∷ Emergency ∷ Emergency ∷ Emergency ∷ Emergency ∷ Emergency ∷ Free ∷ []
  pub crest_numbers : map (λ (e : Record). answer_number e.answer) (run_of crest_calls)
      ≡ 0 ∷ 0 ∷ 0 ∷ 0 ∷ 0 ∷ 0 ∷ 0 ∷ 0 ∷ 0 ∷ 0 ∷ 0 ∷ 0 ∷ 0 ∷ 0 ∷ 0 ∷ []
  pub crest_phases : map (λ (e : Record). e.phase) (run_of crest_calls)
      ≡ Free ∷ Free ∷ Free ∷ Free ∷ Emergency ∷ Emergency ∷ Free ∷ Free ∷ Free ∷ Emergency ∷ Emergency ∷ Free ∷ Emergency ∷ Emergency ∷ Free ∷ []

-- An accepted call with the phase after it.
abbrev pub accepted_entry : Call → Phase → Record
accepted_entry c p = record { call = c; answer = Ok None; phase = p }

-- A target of speed 5 that stands at 990, on a grade of 4.
abbrev pub one_target : History
one_target = accepted_entry (slope 0 (pos 4)) Free ∷ accepted_entry (announce 7 905 95 5) Free ∷ []

-- A target of speed 5 that stands at 2000, on a track that falls up to 500 and is level from there on.
abbrev pub past_a_fall : History
past_a_fall = accepted_entry (slope 0 (negsuc 0)) Free ∷ accepted_entry (slope 500 (pos 0)) Free ∷ accepted_entry (announce 7 2000 0 5) Free ∷ []

-- A ceiling of speed 30 from the place 100 on.
abbrev pub one_ceiling : History
one_ceiling = accepted_entry (ceiling_from 100 30) Free ∷ []

-- Over tenfold with 10 percent cut off.
abbrev pub BreaksTheLines : History → Type 0
BreaksTheLines h = KeepsTheLines sheet tenfold h → ⊥

-- Histories that the lines rule out.
pub record RuledOut : Type 0 where
  -- above the top speed, and the brake stays off
  pub too_fast : BreaksTheLines (accepted_entry (sample 0 501) Free ∷ [])
  -- at 790 with 20, 200 before the target, the brake stays off
  pub too_near : BreaksTheLines (one_target ++ accepted_entry (sample 790 20) Warning ∷ [])
  -- the brake comes on with no target
  pub for_nothing : BreaksTheLines (accepted_entry (sample 0 500) Emergency ∷ [])
  -- the brake comes on 291 before the target, where 200 and the margin of 90 are enough
  pub too_early : BreaksTheLines (one_target ++ accepted_entry (sample 699 20) Emergency ∷ [])
  -- a sample lets the brake go
  pub unasked : BreaksTheLines (accepted_entry (sample 0 501) Emergency ∷ accepted_entry (sample 0 20) Free ∷ [])
  -- the brake is let go after a sample that was too fast
  pub too_soon : BreaksTheLines (accepted_entry (sample 0 501) Emergency ∷ accepted_entry release Free ∷ [])
  -- the brake is let go after a sample 250 before the target, where the nominal distance is 300
  pub not_yet : BreaksTheLines (one_target ++ accepted_entry (sample 790 20) Emergency ∷ accepted_entry (sample 740 20) Emergency ∷ accepted_entry release Free ∷ [])
  -- far from a target, but with no section known: the steepest fall, where tenfold is weak
  pub unknown_grade : BreaksTheLines (accepted_entry (announce 7 905 95 5) Free ∷ accepted_entry (sample 0 20) Free ∷ [])
  -- the rear of the train is on the last mm of a fall, where tenfold is weak, and the brake stays off
  pub under_the_rear : BreaksTheLines (past_a_fall ++ accepted_entry (sample 1499 20) Free ∷ [])
  -- the brake comes on 500 before the target, with the fall just left behind
  pub behind_the_rear : BreaksTheLines (past_a_fall ++ accepted_entry (sample 1500 20) Emergency ∷ [])
  -- the brake comes on for a target that was withdrawn
  pub withdrawn : BreaksTheLines (one_target ++ accepted_entry (withdraw 7) Free ∷ accepted_entry (sample 790 20) Emergency ∷ [])
  -- 101 above the ceiling at its very place, and the brake stays off
  pub far_above : BreaksTheLines (one_ceiling ++ accepted_entry (sample 100 131) Warning ∷ [])
  -- the brake comes on 100 above the ceiling
  pub near_above : BreaksTheLines (one_ceiling ++ accepted_entry (sample 100 130) Emergency ∷ [])
  -- the brake comes on one mm before the ceiling
  pub before_it : BreaksTheLines (one_ceiling ++ accepted_entry (sample 99 131) Emergency ∷ [])
  -- the brake comes on for a ceiling that was lifted
  pub lifted : BreaksTheLines (one_ceiling ++ accepted_entry (lift 100) Free ∷ accepted_entry (sample 100 131) Emergency ∷ [])
  -- the brake is let go after a sample one tenth above the ceiling
  pub still_above : BreaksTheLines (one_ceiling ++ accepted_entry (sample 100 131) Emergency ∷ accepted_entry (sample 100 31) Emergency ∷ accepted_entry release Free ∷ [])
  -- the brake comes on in a call that is no sample
  pub no_sample : BreaksTheLines (accepted_entry (slope 0 (pos 4)) Emergency ∷ [])
