use Rattle.std.proofs.Common.{◌+◌, sym, ◌∙◌, subst, arith, length-set}
use Rattle.std.proofs.lemmas.List.{length-map}
use Rattle.load.specs.Given.{Giving, TellsAll}
use Rattle.load.specs.Tables.{weights_in, tables_in}
use Rattle.load.proofs.Entering.{few_loads, giving_at, entries_here, AllTold, tables_more}
use Rattle.load.proofs.Tables.{table_written}
use Rattle.load.proofs.weights.tables_of.Goals as goal

pub table_of-requires : goal.table_of-requires
table_of-requires c =
    let x = c.args.sheets.now in
    subst (λ es. ∥ Giving es ∥₁) (sym (entries_here x.views x.count c.sheets.s _ (omega (arith, c.sheets-test.true)) (omega (arith, x.few, x.long))))
    (giving_at x.make x.views x.count c.requires x.taken (omega (arith, x.few, x.long)) c.sheets.s (omega (arith, c.sheets-test.true)))

pub bounds-tables-s : goal.bounds-tables-s
bounds-tables-s c =
    let x = c.args.sheets.now in
    let few = few_loads x.make x.views x.count c.requires x.taken (omega (arith, x.few, x.long)) in
    omega (arith, c.sheets-test.true, c.sheets.invariant.0)

pub sheets-preserved : goal.sheets-preserved
sheets-preserved c =
    let x = c.args.sheets.now in
    let tables = c.sheets.tables in
    let s = c.sheets.s in
    let table = c.table_of.result in
    let few = few_loads x.make x.views x.count c.requires x.taken (omega (arith, x.few, x.long)) in
    let here = subst (λ es. TellsAll es (weights_in table)) (entries_here x.views x.count s _ (omega (arith, c.sheets-test.true)) (omega (arith, x.few, x.long))) c.table_of.ensures in
    let more = tables_more x.views (tables_in tables) s (weights_in table) (simp length-map (omega (arith, c.sheets-test.true, c.sheets.invariant.0))) c.sheets.invariant.1 here in
    (length-set tables s table ∙ c.sheets.invariant.0, subst (λ ts. AllTold x.views ts (s + 1)) (sym (table_written tables s table)) more)
