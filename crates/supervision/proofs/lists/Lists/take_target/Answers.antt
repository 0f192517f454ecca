use Rattle.history.specs.State.{valid_targets}
use Rattle.history.specs.Step.{without_item, withdrawal_obstacles}
use Rattle.history.proofs.Tracked.{target_number, target_place_of}
use Rattle.history.proofs.Validity.{target_fewer}
use Rattle.place_list.specs.Sequence.{sequence}
use Rattle.place_list.specs.declared.placed.Placed.{Placed}
use Rattle.supervision.specs.Adding.{list_of}
use Rattle.supervision.specs.Items.{target_of, targets_in}
use Rattle.supervision.specs.Lists.{track_of}
use Rattle.supervision.specs.declared.lists.Lists.{Lists}
use Rattle.supervision.specs.declared.target.Target.{Target as TargetItem}
use Rattle.supervision.proofs.Items.{FoundNumber, capacity_kept, found_within, list_taken, taken_kept, targets_change, valid_taken}
use Rattle.supervision.proofs.lists.Lists.take_target.Goals as goal

pub take-requires : goal.take-requires
take-requires c =
    let found : FoundNumber c.args.number c.args.self.now.targets c.find_key-found.result = rw c.from.ensures at c.find_key-found.ensures in
    found_within (λ (y : Placed TargetItem). y.item.number) c.args.number (sequence c.args.self.now.targets) c.find_key-found.result found

pub invariant_of-self : goal.invariant_of-self
invariant_of-self c =
    let before : Lists = c.args.self.now in
    let found : FoundNumber c.args.number before.targets c.find_key-found.result = rw c.from.ensures at c.find_key-found.ensures in
    record {
      few_sections = before.few_sections;
      few_targets = capacity_kept 32 before.targets c.take.new.list (taken_kept c.find_key-found.result before.targets c.take.new.list c.take.result c.take.ensures) before.few_targets;
      few_ceilings = before.few_ceilings;
      sections_valid = before.sections_valid;
      targets_valid = valid_taken target_of target_place_of target_number before.targets c.take.new.list c.args.number valid_targets c.find_key-found.result c.take.result found c.take.ensures before.targets_valid
          (target_fewer c.args.number (targets_in (sequence before.targets)) before.targets_valid);
      ceilings_valid = before.ceilings_valid;
    }

pub returns-clause-changes : goal.returns-clause-changes
returns-clause-changes c =
    let before : Lists = c.args.self.now in
    let found : FoundNumber c.args.number before.targets c.find_key-found.result = rw c.from.ensures at c.find_key-found.ensures in
    targets_change before (withdrawal_obstacles c.args.number (track_of before)) (without_item target_number c.args.number (list_of target_of before.targets)) c.take.new.list c.take.result
    (list_taken target_of target_place_of target_number before.targets c.take.new.list c.args.number c.find_key-found.result c.take.result found c.take.ensures)
