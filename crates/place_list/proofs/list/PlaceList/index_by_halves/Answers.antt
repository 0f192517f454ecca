use Rattle.std.proofs.Common.{◌-◌, leb, leb-true, arith, rules}
use Rattle.std.proofs.lemmas.Bool.{leb-false}
use Rattle.std.proofs.lemmas.List.Sorted.{IsPartitionPoint-from_clause, IsPartitionedBy-leb}
use Rattle.place_list.specs.Places.{place_of}
use Rattle.place_list.specs.declared.placed.Placed.{Placed}
use Rattle.place_list.proofs.Ascents.{non_decreasing}
use Rattle.place_list.proofs.list.PlaceList.index_by_halves.Goals as goal

pub returns : goal.returns
returns g c =
    let parted = IsPartitionedBy-leb (place_of {T = g.row.T.Denot}) _ c.args.place.millimetres (non_decreasing place_of _ c.args.self.now.ascending) in
    let clause = rw c.items.ensures.value at c.partition_point.ensures.partitioned in
    let bound = rw c.items.ensures.value at c.partition_point.ensures.bound in
    let point = IsPartitionPoint-from_clause (λ (x : Placed g.row.T.Denot). leb (place_of x) c.args.place.millimetres) _ _ clause parted (λ a r q k. search rules) in
    record {
      upto = bound;
      before = λ d l. leb-true _ _ (point.0 (c.partition_point.result - 1) d (omega arith) (omega arith));
      behind = λ d k l m. leb-false _ _ (point.1 k d l m);
    }
