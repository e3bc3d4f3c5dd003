use Rattle.std.proofs.Common.{arith}
use Rattle.bar.proofs.Showing.{fresh}
use Rattle.bar.proofs.Bar.new.Goals as goal

pub returns : goal.returns
returns c =
    let k = c.args.catalogue.now in
    let t = c.sheets_of-sheets.result in
    fresh k.bytes.now k.counts k.accepted k.octets t.views t.count c.none.result.count c.sheets_of-sheets.ensures.is (omega (arith, t.few, t.long)) c.none.ensures
