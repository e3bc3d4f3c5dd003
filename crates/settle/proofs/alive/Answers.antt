use Rattle.std.proofs.Common.{rules, tests}
use Rattle.std.proofs.lemmas.Iterator.{cases_from_all, YieldsList-from_range}
use Rattle.boxes.specs.Boxes.{Some}
use Rattle.settle.proofs.Living.{alive_is}
use Rattle.settle.proofs.alive.Goals as goal

pub returns : goal.returns
returns c =
    let cells = c.args.slate.now.cells in
    alive_is cells c.args.slots _
    (cases_from_all _ _ _ (Some c.args.slate.now.cells) (λ s. Some c.args.slate.now.cells s → ⊥) c.all.ensures.ran (YieldsList-from_range 0 c.args.slots c.args.slots (search rules) (search rules)) (λ x q k. search (rules, tests)) (λ x q k. search (rules, tests)))
