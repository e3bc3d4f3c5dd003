use Rattle.std.proofs.Common.{◌≡◌, ◌∙◌, arith}
use Rattle.fit.specs.Laid.{row_count}
use Rattle.fit.proofs.Filled.{rows_here, before_next, each_more}
use Rattle.fit.proofs.filling.row_counts.Goals as goal

counted : (c : goal.After-row_count) → c.row_count.result ≡ row_count c.args.sheets.now.views c.loop-sheet.sheet
counted c =
    let s = c.args.sheets.now in
    c.row_count.ensures ∙ rows_here s.views s.count c.loop-sheet.sheet _ (omega (arith, c.loop-sheet-test.true)) (omega (arith, s.few, s.long))

pub overflow_cast-counts : goal.overflow_cast-counts
overflow_cast-counts c =
    let s = c.args.sheets.now in
    omega (arith, c.requires, counted c, before_next s.views c.loop-sheet.sheet s.count (omega (arith, c.loop-sheet-test.true)))

pub loop-sheet-preserved : goal.loop-sheet-preserved
loop-sheet-preserved c =
    let s = c.args.sheets.now in
    each_more (row_count s.views) c.loop-sheet.counts c.loop-sheet.sheet c.row_count.result (omega (arith, s.few, c.loop-sheet-test.true)) (counted c) c.loop-sheet.invariant
