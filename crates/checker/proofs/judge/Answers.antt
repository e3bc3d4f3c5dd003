use Rattle.catalogue.specs.Law.{Octets}
use Rattle.catalogue.proofs.Meaning.{means, made_accepted}
use Rattle.checker.proofs.judge.Goals as goal

pub returns : goal.returns
returns c =
    let bs = c.args.bytes.now in
    let octets : Octets bs = λ i. (c.type_inv.bytes i).fits in
    record { is = c.verify.ensures; means = means bs octets _ c.verify.ensures; accepted = made_accepted bs _ c.verify.ensures; octets = octets }
