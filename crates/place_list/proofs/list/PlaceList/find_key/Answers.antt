use Rattle.std.proofs.Common.{◌≡◌, ◌≢◌, ◌∙◌, rules, tests}
use Rattle.std.proofs.lemmas.Iterator.{IsFirst-from_position, YieldsList-from_slice}
use Rattle.place_list.specs.Sequence.{sequence}
use Rattle.place_list.specs.declared.placed.Placed.{Placed}
use Rattle.place_list.proofs.Members.{found_first}
use Rattle.place_list.proofs.list.PlaceList.find_key.Goals as goal

pub returns : goal.returns
returns g c =
    let mark = (λ (y : Placed g.row.T.Denot). g.T.Keyed.key_number y.item) in
    let items = YieldsList-from_slice (sequence c.args.self.now) (c.iter.ensures.rest ∙ c.items.ensures.value) in
    found_first mark c.args.key _ _
    (IsFirst-from_position _ _ _ (λ y. mark y ≡ c.args.key) (λ y. mark y ≢ c.args.key) c.position.ensures.ran items (λ x q k. search (rules, tests)) (λ x q k. search (rules, tests)))
