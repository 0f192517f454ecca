use Rattle.std.proofs.Common.{ℕ, take, pos, sym, ap, arith, rules}
use Rattle.std.proofs.lemmas.List.Sorted.{IsPartitionPoint-from_clause, IsPartitionedBy-leb}
use Rattle.std.proofs.lemmas.List.Sums.{prefix_len_is}
use Rattle.units.specs.declared.quantities.Grade.{Grade}
use Rattle.place_list.specs.Places.{place_of}
use Rattle.place_list.specs.declared.placed.Placed.{Placed}
use Rattle.history.proofs.Tracked.{valid_ascends}
use Rattle.supervision.specs.Items.{sections_in}
use Rattle.supervision.proofs.Grades.{inside}
use Rattle.supervision.proofs.SectionOrder.{in_order}
use Rattle.supervision.proofs.sections.Sections.up_to.Goals as goal

none : Placed Grade
none = record { place = record { millimetres = 0 }; item = record { thousandths = pos 0 } }

pub returns : goal.returns
returns c =
    let items = c.args.self.items.now in
    let place = c.args.place.millimetres in
    let count = c.partition_point-count.result in
    let parted = IsPartitionedBy-leb place_of items place (in_order items (valid_ascends (sections_in items) c.args.self.valid)) in
    let point = IsPartitionPoint-from_clause (inside place) items count c.partition_point-count.ensures.partitioned parted (λ a r q k. search rules) in
    ap (λ (n : ℕ). take n items) (sym (prefix_len_is (inside place) items count none c.partition_point-count.ensures.bound (λ k h. point.0 k none (omega arith) h) (λ h. point.1 count none (omega arith) h)))
