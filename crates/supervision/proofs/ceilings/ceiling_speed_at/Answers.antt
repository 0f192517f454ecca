use Rattle.std.proofs.Common.{◌≡◌, ◌∙◌, None, Some, ap, rules, take, tests}
use Rattle.std.specs.Option.{option_map}
use Rattle.std.specs.List.{prefix_len}
use Rattle.std.proofs.lemmas.Iterator.{YieldsList-from_slice}
use Rattle.std.proofs.lemmas.Iterator.Adapters.{total_from_yields_List}
use Rattle.std.proofs.lemmas.Iterator.Search.{YieldsList-from_take_while}
use Rattle.supervision.proofs.Holding.{begins, held_inside, last_mapped, latest, tenths_in}
use Rattle.supervision.proofs.ceilings.ceiling_speed_at.Goals as goal

pub returns : goal.returns
returns c =
    let ran = c.last.ensures.ran in
    let last : option_map (λ y. y.now) c.last.result ≡ latest None (take (prefix_len (begins c.args.place.millimetres) c.args.ceilings.now) c.args.ceilings.now) =
    total_from_yields_List (λ a x. Some x) None (option_map (λ y. y.now) c.last.result)
    (ran.0, (λ _. ran.1), ap (option_map (λ y. y.now)) ran.2 ∙ last_mapped (λ y. y.now) None ran.0)
    (YieldsList-from_take_while _ (begins c.args.place.millimetres) (YieldsList-from_slice c.args.ceilings.now (cc)) c.take_while.ensures.closure c.take_while.ensures.done (λ x b q k. search (rules, tests))) in
    let mapped : option_map (λ v. v.tenths) c.map.result ≡ option_map tenths_in (option_map (λ y. y.now) c.last.result) = search rules in
    mapped ∙ (ap (option_map tenths_in) last ∙ held_inside c.args.place.millimetres c.args.ceilings.now None)
