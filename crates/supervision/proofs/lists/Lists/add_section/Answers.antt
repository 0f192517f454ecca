use Rattle.std.proofs.Common.{is_some, refl}
use Rattle.history.specs.State.{valid_sections}
use Rattle.history.specs.Step.{section_obstacles, with_item}
use Rattle.history.proofs.Tracked.{section_place}
use Rattle.history.proofs.Validity.{section_more}
use Rattle.place_list.specs.Sequence.{sequence}
use Rattle.supervision.specs.Adding.{Added, list_of}
use Rattle.supervision.specs.Items.{section_of, sections_in}
use Rattle.supervision.specs.Lists.{track_of}
use Rattle.supervision.specs.declared.lists.Lists.{Lists}
use Rattle.supervision.proofs.Items.{added_kept, capacity_kept, list_added, sections_change, valid_added}
use Rattle.supervision.proofs.lists.Lists.add_section.Goals as goal

pub invariant_of-self : goal.invariant_of-self
invariant_of-self c =
    let before : Lists = c.args.self.now in
    let added : Added (is_some c.find_place.result) c.args.new before.sections c.add.new.list c.add.result = rw c.is_some-taken.ensures at c.add.ensures in
    record {
      few_sections = capacity_kept 64 before.sections c.add.new.list (added_kept (is_some c.find_place.result) c.args.new before.sections c.add.new.list c.add.result added) before.few_sections;
      few_targets = before.few_targets;
      few_ceilings = before.few_ceilings;
      sections_valid = valid_added section_of section_place section_place before.sections c.add.new.list c.args.new c.find_place.result refl c.find_place.ensures valid_sections c.add.result added before.sections_valid
          (λ free. section_more (section_of c.args.new) (sections_in (sequence before.sections)) before.sections_valid c.requires free);
      targets_valid = before.targets_valid;
      ceilings_valid = before.ceilings_valid;
    }

pub returns-clause-changes : goal.returns-clause-changes
returns-clause-changes c =
    let before : Lists = c.args.self.now in
    sections_change before (section_obstacles c.args.new.place.millimetres (track_of before)) (with_item section_place (section_of c.args.new) (list_of section_of before.sections)) c.add.new.list c.add.result
    (list_added section_of section_place section_place before.sections c.add.new.list c.args.new c.find_place.result refl c.find_place.ensures c.add.result (rw c.is_some-taken.ensures at c.add.ensures))
