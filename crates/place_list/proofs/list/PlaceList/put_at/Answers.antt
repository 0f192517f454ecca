use Rattle.std.proofs.Common.{◌≡◌, ◌+◌, ◌-◌, ◌<◌, ◌≤◌, ◌++◌, ◌∙◌, min, length, take, drop, refl, ap, arith}
use Rattle.std.proofs.lemmas.List.{length-take-le, take-take}
use Rattle.std.specs.List.{insert}
use Rattle.place_list.specs.Insertion.{PutIn}
use Rattle.place_list.specs.Places.{place_of}
use Rattle.place_list.proofs.Inserts.{first_put, put_in, rest_put, whole_put}
use Rattle.place_list.proofs.Members.{one_more}
use Rattle.place_list.proofs.Splits.{ascends_put_in, comes_last, put_in_is}
use Rattle.place_list.proofs.list.PlaceList.put_at.Goals as goal
use Rattle.place_list.proofs.list.PlaceList.put_at.Goals.{After-put_in, at-invariant_of-self, at-returns}

written : (g : _) (c : After-put_in g) → c.put_in.new.items ++ drop (c.args.self.now.len + 1) c.args.self.now.memory.now ≡ insert (take c.args.self.now.len c.args.self.now.memory.now) c.args.at c.args.new ++ drop (c.args.self.now.len + 1) c.args.self.now.memory.now
written g c =
    let old = c.args.self.now.memory.now in
    let n = c.args.self.now.len in
    let fits : n < min c.args.self.now.max_len (length old) = c.requires.fits in
    let part : length (take (n + 1) old) ≡ n + 1 = length-take-le (n + 1) old (omega arith) in
    let count : length (take (n + 1) old) - 1 ≡ n = omega arith in
    ap (λ xs. xs ++ drop (n + 1) old) (c.put_in.ensures
    ∙ (ap (λ k. insert (take k (take (n + 1) old)) c.args.at c.args.new) count ∙ ap (λ xs. insert xs c.args.at c.args.new) (take-take n (n + 1) old (omega arith))))

stands : (g : _) (c : After-put_in g) → PutIn place_of c.args.new (take c.args.self.now.len c.args.self.now.memory.now) (take (c.args.self.now.len + 1) (c.put_in.new.items ++ drop (c.args.self.now.len + 1) c.args.self.now.memory.now))
stands g c =
    let old = c.args.self.now.memory.now in
    let n = c.args.self.now.len in
    let fits : n < min c.args.self.now.max_len (length old) = c.requires.fits in
    let whole : length (take n old) ≡ n = length-take-le n old c.args.self.now.within in
    let upto : c.args.at ≤ length (take n old) = c.requires.upto in
    put_in place_of c.args.new c.args.at (take n old) _ c.requires.upto c.requires.before c.requires.behind c.args.self.now.ascending
    (first_put c.args.new n c.args.at old (c.put_in.new.items ++ drop (n + 1) old) (omega arith) (omega arith) (written g c))

pub invariant_of-self : goal.invariant_of-self
invariant_of-self g c =
    let old = c.args.self.now.memory.now in
    let n = c.args.self.now.len in
    let fits : n < min c.args.self.now.max_len (length old) = c.requires.fits in
    let whole : length (take n old) ≡ n = length-take-le n old c.args.self.now.within in
    let upto : c.args.at ≤ length (take n old) = c.requires.upto in
    let same : length (c.put_in.new.items ++ drop (n + 1) old) ≡ length old = whole_put c.args.new n c.args.at old (c.put_in.new.items ++ drop (n + 1) old) (omega arith) (omega arith) (written g (at-invariant_of-self g c).After-put_in) in
    record {
      within = omega arith;
      allowed = omega arith;
      ascending = ascends_put_in place_of c.args.new _ _ (stands g (at-invariant_of-self g c).After-put_in) c.args.self.now.ascending;
    }

pub returns : goal.returns
returns g c =
    let old = c.args.self.now.memory.now in
    let n = c.args.self.now.len in
    let at = c.args.at in
    let x = c.args.new in
    let fits : n < min c.args.self.now.max_len (length old) = c.requires.fits in
    let whole : length (take n old) ≡ n = length-take-le n old c.args.self.now.within in
    let upto : at ≤ length (take n old) = c.requires.upto in
    let same : length (c.put_in.new.items ++ drop (n + 1) old) ≡ length old = whole_put x n at old (c.put_in.new.items ++ drop (n + 1) old) (omega arith) (omega arith) (written g (at-returns g c).After-put_in) in
    let put = stands g (at-returns g c).After-put_in in
    record {
      result = put_in_is place_of x _ _ put;
      stands = put;
      members = one_more x put.before put.behind _ _ put.old_is put.new_is;
      turns = comes_last place_of x _ _ put;
      room_less = omega arith;
      kept = record {
        max_len_same = refl;
        length_same = same;
        loan_same = refl;
        rest_same = rest_put x n at old (c.put_in.new.items ++ drop (n + 1) old) (omega arith) (omega arith) (written g (at-returns g c).After-put_in);
      };
    }
