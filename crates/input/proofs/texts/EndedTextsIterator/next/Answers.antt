use Rattle.std.proofs.Common.{rules, ℕ, ◌+◌, ◌-◌, List, ◌∷◌, length, take, drop, sym, ap, ◌∙◌, arith, length-drop}
use Rattle.std.proofs.lemmas.List.{take_all}
use Rattle.std.proofs.lemmas.Grind.{common_steps}
use Rattle.input.specs.Texts.{ended_parts}
use Rattle.input.proofs.EndedParts.{first_part, no_part}
use Rattle.input.proofs.texts.EndedTextsIterator.next.Goals as goal

pub returns-in_err-at-clause-steps : goal.returns-in_err-at-clause-steps
returns-in_err-at-clause-steps c =
    let none = no_part c.args.self.now.end c.args.self.now.rest.now (sym c.in_err-at.was ∙ c.first_of.ensures) in
    rw c.from_residual.ensures (none, none)

pub returns-clause-steps : goal.returns-clause-steps
returns-clause-steps c =
    let end = c.args.self.now.end in
    let bytes = c.args.self.now.rest.now in
    let at = c.in_ok-at.at in
    let rest = drop (at + 1) bytes in
    first_part end bytes at (search rules)
    ∙ ap (λ (more : List ℕ). take at bytes ∷ ended_parts end more) (sym (take_all (length bytes - (at + 1)) rest (omega (arith, length-drop (at + 1) bytes))))

pub returns-clause-goes : goal.returns-clause-goes
returns-clause-goes c = let e = returns-clause-steps c in grind (arith, common_steps)
