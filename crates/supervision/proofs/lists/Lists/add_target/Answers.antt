use Rattle.std.proofs.Common.{ℕ, is_some, refl, subst}
use Rattle.history.specs.State.{valid_targets}
use Rattle.history.specs.Step.{target_obstacles, with_item}
use Rattle.history.proofs.Tracked.{target_number, target_place_of}
use Rattle.history.proofs.Validity.{target_more}
use Rattle.place_list.specs.Sequence.{sequence}
use Rattle.supervision.specs.Adding.{Added, list_of}
use Rattle.supervision.specs.Items.{target_of, targets_in}
use Rattle.supervision.specs.Lists.{track_of}
use Rattle.supervision.specs.declared.lists.Lists.{Lists}
use Rattle.supervision.proofs.Items.{FoundNumber, added_kept, capacity_kept, list_added, targets_change, valid_added}
use Rattle.supervision.proofs.lists.Lists.add_target.Goals as goal

pub invariant_of-self : goal.invariant_of-self
invariant_of-self c =
    let before : Lists = c.args.self.now in
    let found : FoundNumber c.args.new.item.number before.targets c.find_key.result = subst (λ (n : ℕ). FoundNumber n before.targets c.find_key.result) c.key.ensures c.find_key.ensures in
    let added : Added (is_some c.find_key.result) c.args.new before.targets c.add.new.list c.add.result = rw c.is_some-taken.ensures at c.add.ensures in
    record {
      few_sections = before.few_sections;
      few_targets = capacity_kept 32 before.targets c.add.new.list (added_kept (is_some c.find_key.result) c.args.new before.targets c.add.new.list c.add.result added) before.few_targets;
      few_ceilings = before.few_ceilings;
      sections_valid = before.sections_valid;
      targets_valid = valid_added target_of target_place_of target_number before.targets c.add.new.list c.args.new c.find_key.result refl found valid_targets c.add.result added before.targets_valid
          (λ free. target_more (target_of c.args.new) (targets_in (sequence before.targets)) before.targets_valid free);
      ceilings_valid = before.ceilings_valid;
    }

pub returns-clause-changes : goal.returns-clause-changes
returns-clause-changes c =
    let before : Lists = c.args.self.now in
    let found : FoundNumber c.args.new.item.number before.targets c.find_key.result = subst (λ (n : ℕ). FoundNumber n before.targets c.find_key.result) c.key.ensures c.find_key.ensures in
    targets_change before (target_obstacles c.args.new.item.number (track_of before)) (with_item target_place_of (target_of c.args.new) (list_of target_of before.targets)) c.add.new.list c.add.result
    (list_added target_of target_place_of target_number before.targets c.add.new.list c.args.new c.find_key.result refl found c.add.result (rw c.is_some-taken.ensures at c.add.ensures))
