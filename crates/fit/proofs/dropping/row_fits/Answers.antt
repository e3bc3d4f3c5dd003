use Rattle.std.proofs.lemmas.Bool.{false≢true}
use Rattle.fit.proofs.Rowing.{open_more, open_not}
use Rattle.fit.proofs.dropping.row_fits.Goals as goal

pub returns-then-cells-position-eq0 : goal.returns-then-cells-position-eq0
returns-then-cells-position-eq0 c = (
  λ e. absurd (false≢true e),
  λ s. absurd (open_not _ _ c.whole_row-option-items.result.now _ _ c.args.sheet.now.scope.short c.requires.whole c.whole_row-option-items.ensures c.loop-position.position c.loop-position-test.true c.if-cells-position-eq0.true s),
)

pub loop-position-preserved : goal.loop-position-preserved
loop-position-preserved c = open_more _ _ c.whole_row-option-items.result.now _ _ c.args.sheet.now.scope.short c.requires.whole c.whole_row-option-items.ensures c.loop-position.position c.loop-position-test.true c.if-cells-position-eq0.false c.loop-position.invariant
