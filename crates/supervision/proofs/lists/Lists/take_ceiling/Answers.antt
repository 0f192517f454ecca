use Rattle.history.specs.State.{valid_ceilings}
use Rattle.history.specs.Step.{lift_obstacles, without_item}
use Rattle.history.proofs.Tracked.{ceiling_place}
use Rattle.history.proofs.Validity.{ceiling_fewer}
use Rattle.place_list.specs.Places.{place_of}
use Rattle.place_list.specs.Sequence.{sequence}
use Rattle.supervision.specs.Adding.{list_of}
use Rattle.supervision.specs.Items.{ceiling_of, ceilings_in}
use Rattle.supervision.specs.Lists.{track_of}
use Rattle.supervision.specs.declared.lists.Lists.{Lists}
use Rattle.supervision.proofs.Items.{capacity_kept, ceilings_change, found_within, list_taken, taken_kept, valid_taken}
use Rattle.supervision.proofs.lists.Lists.take_ceiling.Goals as goal

pub take-requires : goal.take-requires
take-requires c = found_within place_of c.args.place.millimetres (sequence c.args.self.now.ceilings) c.find_place-found.result c.find_place-found.ensures

pub invariant_of-self : goal.invariant_of-self
invariant_of-self c =
    let before : Lists = c.args.self.now in
    record {
      few_sections = before.few_sections;
      few_targets = before.few_targets;
      few_ceilings = capacity_kept 48 before.ceilings c.take.new.list (taken_kept c.find_place-found.result before.ceilings c.take.new.list c.take.result c.take.ensures) before.few_ceilings;
      sections_valid = before.sections_valid;
      targets_valid = before.targets_valid;
      ceilings_valid = valid_taken ceiling_of ceiling_place ceiling_place before.ceilings c.take.new.list c.args.place.millimetres valid_ceilings c.find_place-found.result c.take.result c.find_place-found.ensures c.take.ensures before.ceilings_valid
          (ceiling_fewer c.args.place.millimetres (ceilings_in (sequence before.ceilings)) before.ceilings_valid);
    }

pub returns-clause-changes : goal.returns-clause-changes
returns-clause-changes c =
    let before : Lists = c.args.self.now in
    ceilings_change before (lift_obstacles c.args.place.millimetres (track_of before)) (without_item ceiling_place c.args.place.millimetres (list_of ceiling_of before.ceilings)) c.take.new.list c.take.result
    (list_taken ceiling_of ceiling_place ceiling_place before.ceilings c.take.new.list c.args.place.millimetres c.find_place-found.result c.take.result c.find_place-found.ensures c.take.ensures)
