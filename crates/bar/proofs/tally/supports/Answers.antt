use Rattle.std.proofs.Common.{◌/◌, length, arith}
use Rattle.bar.proofs.Supports.{backs}
use Rattle.bar.proofs.tally.supports.Goals as goal

pub returns : goal.returns
returns c =
    let sizes = c.of-sizes in
    let sheet = c.args.sheet.now in
    backs c.args.slate.now.cells sheet.scope.slots.now sheet.entries.now sizes.result.each c.count.new.self.counts c.masks.result (length sheet.entries.now / 9)
    sheet.scope.short sizes.result.long c.requires.apart sizes.ensures.each c.count.ensures (λ p h. c.masks.ensures p (omega (arith, sizes.ensures.arity)))
