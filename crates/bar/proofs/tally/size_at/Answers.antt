use Rattle.std.proofs.Common.{◌≡◌, ◌<◌, ◌^◌, length, get_or, arith, rules}
use Rattle.std.proofs.lemmas.Grind.{common_steps}
use Rattle.bar.proofs.Passes.{measured}
use Rattle.bar.proofs.tally.size_at.Goals as goal

pub returns-in-Some : goal.returns-in-Some
returns-in-Some c =
    let b = c.args.slate.now.cells in
    let scope = c.args.scope.now.slots.now in
    let slot = c.in-Some.slot.now in
    let k = c.in-Some.ensures.lookup in
    let h : c.args.position < length scope = grind (arith, common_steps) in
    let e : slot ≡ get_or scope c.args.position 0 = grind (arith, common_steps) in
    let low : get_or b slot 0 < 2 ^ 32 = search rules in
    rw c.from.ensures (measured b scope c.args.position slot h e low)
