use Rattle.std.proofs.Common.{length, refl, rules, arith}
use Rattle.std.proofs.lemmas.Iterator.{YieldsList-from_range, cases_from_all}
use Rattle.planner.specs.Opening.{Below}
use Rattle.planner.proofs.Opened.{each_number, all_sheets}
use Rattle.planner.proofs.opening.all_below.Goals as goal

pub returns : goal.returns
returns g c =
    let m = g.B.Binder.meaning c.args.binder.now in
    let each = λ (s : _). Below m s c.args.slots (length (m.scope s)) in
    all_sheets m c.args.slots c.all.result
    (each_number m.count c.all.result each
    (cases_from_all _ _ c.all.result each (λ s. each s → ⊥) c.all.ensures.ran (YieldsList-from_range 0 c.sheets.result m.count refl (omega (arith, c.sheets.ensures))) (λ x q k. search rules) (λ x q k. search rules)))
