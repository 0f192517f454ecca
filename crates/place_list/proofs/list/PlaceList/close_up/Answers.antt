use Rattle.std.proofs.Common.{◌≡◌, ◌<◌, ◌≤◌, length, get_or, take, sym, refl, ◌∙◌, arith}
use Rattle.std.proofs.lemmas.List.{get_or_default, get_or-take, length-take-le}
use Rattle.place_list.specs.Places.{place_of}
use Rattle.place_list.proofs.Ascents.{ascends_removed}
use Rattle.place_list.proofs.Removals.{behind_left, left_over, taken_from, taken_one, taken_turns}
use Rattle.place_list.proofs.list.PlaceList.close_up.Goals as goal

pub invariant_of-self : goal.invariant_of-self
invariant_of-self g c =
    let old = c.args.self.now.memory.now in
    let n = c.args.self.now.len in
    let some : c.args.at < n = c.requires in
    let within : n ≤ length old = c.args.self.now.within in
    let allowed : n ≤ c.args.self.now.max_len = c.args.self.now.allowed in
    let same : length c.copy_within.new.self ≡ length old = c.copy_within.ensures.len in
    let left = left_over n c.args.at old c.copy_within.new.self some within c.copy_within.ensures.after in
    record {
      within = omega arith;
      allowed = omega arith;
      ascending = ascends_removed place_of c.args.at (take n old) _ left c.args.self.now.ascending;
    }

pub returns : goal.returns
returns g c =
    let old = c.args.self.now.memory.now in
    let n = c.args.self.now.len in
    let at = c.args.at in
    let x = get_or old at c.index-self-at.result in
    let some : at < n = c.requires in
    let within : n ≤ length old = c.args.self.now.within in
    let allowed : n ≤ c.args.self.now.max_len = c.args.self.now.allowed in
    let same : length c.copy_within.new.self ≡ length old = c.copy_within.ensures.len in
    let whole : length (take n old) ≡ n = length-take-le n old within in
    let inside : at < length (take n old) = omega arith in
    let is : x ≡ get_or (take n old) at x = get_or_default old at c.index-self-at.result x (omega arith) ∙ sym (get_or-take n old at x some) in
    let left = left_over n at old c.copy_within.new.self some within c.copy_within.ensures.after in
    let from = taken_from at x (take n old) _ inside is left in
    record {
      inside = inside;
      taken = is;
      result = left;
      stood = from;
      members = taken_one at x _ _ from;
      turns = taken_turns place_of at x _ _ from;
      room_more = omega arith;
      kept = record { max_len_same = refl; length_same = same; loan_same = refl; rest_same = behind_left n at old c.copy_within.new.self some within c.copy_within.ensures.after };
    }
