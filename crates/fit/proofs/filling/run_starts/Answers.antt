use Rattle.std.proofs.Common.{◌≡◌, ◌∙◌, arith}
use Rattle.fit.specs.Laid.{row_count, rows_before}
use Rattle.fit.proofs.Filled.{rows_here, before_next, before_more, each_more}
use Rattle.fit.proofs.filling.run_starts.Goals as goal

counted : (c : goal.After-row_count-start) → c.row_count-start.result ≡ row_count c.args.sheets.now.views c.loop-sheet.sheet
counted c =
    let s = c.args.sheets.now in
    c.row_count-start.ensures ∙ rows_here s.views s.count c.loop-sheet.sheet _ (omega (arith, c.loop-sheet-test.true)) (omega (arith, s.few, s.long))

pub overflow_cast-starts : goal.overflow_cast-starts
overflow_cast-starts c =
    let s = c.args.sheets.now in
    omega (arith, c.requires, c.loop-sheet.invariant.1, before_next s.views c.loop-sheet.sheet s.count (omega (arith, c.loop-sheet-test.true)))

pub overflow_add-start : goal.overflow_add-start
overflow_add-start c =
    let s = c.args.sheets.now in
    omega (arith, c.requires, c.loop-sheet.invariant.1, counted c, before_next s.views c.loop-sheet.sheet s.count (omega (arith, c.loop-sheet-test.true)))

pub loop-sheet-preserved : goal.loop-sheet-preserved
loop-sheet-preserved c =
    let s = c.args.sheets.now in
    let x = c.loop-sheet.invariant in (
      each_more (rows_before s.views) c.loop-sheet.starts c.loop-sheet.sheet c.loop-sheet.start (omega (arith, s.few, c.loop-sheet-test.true)) x.1 x.0,
      omega (arith, x.1, counted c, before_more s.views c.loop-sheet.sheet),
    )
