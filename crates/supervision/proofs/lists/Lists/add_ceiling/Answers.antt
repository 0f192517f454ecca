use Rattle.std.proofs.Common.{is_some, refl}
use Rattle.history.specs.State.{valid_ceilings}
use Rattle.history.specs.Step.{ceiling_obstacles, with_item}
use Rattle.history.proofs.Tracked.{ceiling_place}
use Rattle.history.proofs.Validity.{ceiling_more}
use Rattle.place_list.specs.Sequence.{sequence}
use Rattle.supervision.specs.Adding.{Added, list_of}
use Rattle.supervision.specs.Items.{ceiling_of, ceilings_in}
use Rattle.supervision.specs.Lists.{track_of}
use Rattle.supervision.specs.declared.lists.Lists.{Lists}
use Rattle.supervision.proofs.Items.{added_kept, capacity_kept, list_added, ceilings_change, valid_added}
use Rattle.supervision.proofs.lists.Lists.add_ceiling.Goals as goal

pub invariant_of-self : goal.invariant_of-self
invariant_of-self c =
    let before : Lists = c.args.self.now in
    let added : Added (is_some c.find_place.result) c.args.new before.ceilings c.add.new.list c.add.result = rw c.is_some-taken.ensures at c.add.ensures in
    record {
      few_sections = before.few_sections;
      few_targets = before.few_targets;
      few_ceilings = capacity_kept 48 before.ceilings c.add.new.list (added_kept (is_some c.find_place.result) c.args.new before.ceilings c.add.new.list c.add.result added) before.few_ceilings;
      sections_valid = before.sections_valid;
      targets_valid = before.targets_valid;
      ceilings_valid = valid_added ceiling_of ceiling_place ceiling_place before.ceilings c.add.new.list c.args.new c.find_place.result refl c.find_place.ensures valid_ceilings c.add.result added before.ceilings_valid
          (λ free. ceiling_more (ceiling_of c.args.new) (ceilings_in (sequence before.ceilings)) before.ceilings_valid free);
    }

pub returns-clause-changes : goal.returns-clause-changes
returns-clause-changes c =
    let before : Lists = c.args.self.now in
    ceilings_change before (ceiling_obstacles c.args.new.place.millimetres (track_of before)) (with_item ceiling_place (ceiling_of c.args.new) (list_of ceiling_of before.ceilings)) c.add.new.list c.add.result
    (list_added ceiling_of ceiling_place ceiling_place before.ceilings c.add.new.list c.args.new c.find_place.result refl c.find_place.ensures c.add.result (rw c.is_some-taken.ensures at c.add.ensures))
