use Rattle.std.proofs.Common.{length, take, pos, sym, subst, arith, length-take, get_or-take}
use Rattle.load.specs.Weights.{Lowest, OpenIn, cell_at, weighs}
use Rattle.load.specs.Tables.{weights_in}
use Rattle.load.proofs.Supporting.{supports, supports_none}
use Rattle.load.proofs.masks.supported.Goals as goal

pub returns-in-Some : goal.returns-in-Some
returns-in-Some c =
    let sheet = c.args.sheet.now in
    let scope = sheet.scope.slots.now in
    let b = c.args.slate.now.cells in
    let table = weights_in c.args.table.now in
    let ms = c.in-Some.leasts in
    supports table sheet.«cap» scope b (take (length scope) ms) c.masks_of.result
    (simp length-take (omega (arith, sheet.scope.short, c.in-Some.ensures.0)))
    (λ p h. subst (Lowest (OpenIn (cell_at b scope p)) (weighs table p)) (sym (get_or-take (length scope) ms p (pos 0) h)) (c.in-Some.ensures.1 p h))
    c.masks_of.ensures.long
    c.masks_of.ensures.masked

pub returns-in-None : goal.returns-in-None
returns-in-None c = supports_none (weights_in c.args.table.now) c.args.sheet.now.«cap» c.args.sheet.now.scope.slots.now c.args.slate.now.cells c.in-None.ensures
