use Rattle.std.proofs.Common.{◌*◌, ap, refl}
use Rattle.catalogue.proofs.Held.{held}
use Rattle.catalogue.proofs.Told.{lists}
use Rattle.catalogue.proofs.checked.Catalogue.sheets.Goals as goal

pub returns : goal.returns
returns c =
    let s = c.args.self.now in
    lists s.bytes.now s.counts _ refl (ap (λ n. 2 * n) c.from.ensures) (held s.bytes.now s.counts s.accepted s.octets)
