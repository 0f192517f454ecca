use Rattle.std.proofs.Common.{◌<◌, ◌≤◌, ◌∙◌, length, eqb, sym, ap, ltb, ltb-true, arith, rules}
use Rattle.std.proofs.lemmas.Bool.{ltb-false}
use Rattle.std.proofs.lemmas.List.{get_or_default}
use Rattle.std.proofs.lemmas.List.Sorted.{IsPartitionPoint-from_clause, IsPartitionedBy-ltb}
use Rattle.place_list.specs.Places.{place_of}
use Rattle.place_list.specs.Sequence.{sequence}
use Rattle.place_list.specs.declared.placed.Placed.{Placed}
use Rattle.place_list.proofs.Ascents.{non_decreasing}
use Rattle.place_list.proofs.Ordered.{Parted, found_there, none_there}
use Rattle.place_list.proofs.list.PlaceList.find_place.Goals as goal
use Rattle.place_list.proofs.list.PlaceList.find_place.Goals.{After-partition_point-at, at-returns, at-returns-in_err-first}

parted : (g : _) (c : After-partition_point-at g) → Parted (place_of {T = g.row.T.Denot}) c.args.place.millimetres c.partition_point-at.result (sequence c.args.self.now)
parted g c =
    let order = non_decreasing (place_of {T = g.row.T.Denot}) _ c.args.self.now.ascending in
    let clause = rw c.items.ensures.value at c.partition_point-at.ensures.partitioned in
    let bound = rw c.items.ensures.value at c.partition_point-at.ensures.bound in
    let point = IsPartitionPoint-from_clause (λ (x : Placed g.row.T.Denot). ltb (place_of x) c.args.place.millimetres) _ _ clause (IsPartitionedBy-ltb (place_of {T = g.row.T.Denot}) _ c.args.place.millimetres order) (λ a r q k. search rules) in
    record {
      order = order;
      bound = bound;
      less = λ d k l. ltb-true _ _ (point.0 k d (omega arith) l);
      not_less = λ d k l m. ltb-false _ _ (point.1 k d l m);
    }

pub returns-in_err-first : goal.returns-in_err-first
returns-in_err-first g c =
    let past = rw c.items-2.ensures.value at c.in_err-first.ensures.lookup in
    let end : length (sequence c.args.self.now) ≤ c.partition_point-at.result = ltb-false _ _ (sym past.0) in
    rw c.from_residual.ensures (none_there place_of c.args.place.millimetres c.partition_point-at.result (sequence c.args.self.now) (parted g (at-returns-in_err-first g c).After-partition_point-at) (λ d l e. omega arith))

pub returns : goal.returns
returns g c =
    let here = rw c.items-2.ensures.value at c.in_ok-first.ensures.lookup in
    let there : c.partition_point-at.result < length (sequence c.args.self.now) = ltb-true _ _ (sym here.0) in
    rw c.then_some.ensures (found_there place_of c.args.place.millimetres c.partition_point-at.result (sequence c.args.self.now) c.eq.result (parted g (at-returns g c).After-partition_point-at) there
    (λ d. c.eq.ensures ∙ ap (λ (x : Placed g.row.T.Denot). eqb (place_of x) c.args.place.millimetres) (here.1 ∙ get_or_default (sequence c.args.self.now) c.partition_point-at.result _ d there)))
