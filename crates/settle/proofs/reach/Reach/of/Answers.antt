use Rattle.std.proofs.Common.{subst, arith, ◌≡◌, ◌≤◌}
use Rattle.settle.proofs.Scopes.{Filling, filling_none, filled_up}
use Rattle.settle.proofs.reach.Reach.of.Goals as goal

pub loop-sheet-init : goal.loop-sheet-init
loop-sheet-init g c = filling_none _

pub returns : goal.returns
returns g c =
    let m = g.B.Binder.meaning c.args.binder.now in
    let few : m.count ≤ 1024 = (g.B.Binder.proper c.args.binder.now).few in
    let e : c.loop-sheet.sheet ≡ m.count = omega (arith, c.sheets-sheet-end.ensures, c.loop-sheet.auto.sheet-end, c.loop-sheet-test.false) in
    filled_up m _ few (subst (Filling m _) e c.loop-sheet.invariant)
