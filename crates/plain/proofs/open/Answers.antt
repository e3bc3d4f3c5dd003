use Rattle.std.proofs.Common.{[], subst}
use Rattle.planner.specs.States.{After}
use Rattle.plain.specs.Plain.{meaning_of}
use Rattle.plain.proofs.Whole.{plain_problem}
use Rattle.plain.proofs.open.Goals as goal

pub returns : goal.returns
returns c =
    let k = c.args.catalogue.now in
    subst (λ P. After meaning_of P [] c.open.result)
    (plain_problem k.bytes.now k.counts k.accepted k.octets _ _ _ _ _ c.new-fit.ensures c.new-bar.ensures c.new-load.ensures c.new.ensures c.new-2.ensures)
    c.open.ensures
