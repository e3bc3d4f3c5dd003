use Rattle.std.proofs.Common.{sym, ap, subst, arith}
use Rattle.sheets.proofs.Scopes.{GoodScope, scope_at}
use Rattle.sheets.proofs.table.SheetTable.sheet.Goals as goal

pub invariant_of-result : goal.invariant_of-result
invariant_of-result c =
    let t = c.args.self.now in
    let good = scope_at t.make t.views t.count t.taken (omega (arith, t.few, t.long)) c.args.s c.if-s-self.false in
    let here : GoodScope c.view-view.result.scope.now = subst GoodScope (sym (ap (λ v. v.scope) c.view-view.ensures)) good in
    record { short = here.short; covered = here.covered }
