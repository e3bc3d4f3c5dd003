use Rattle.fit.proofs.Masking.{held_none, held_option}
use Rattle.fit.proofs.support.held_at.Goals as goal

pub loop-row-init : goal.loop-row-init
loop-row-init c = held_none _ _ _

pub loop-row-preserved : goal.loop-row-preserved
loop-row-preserved c = held_option _ _ _ c.whole_row.result.now _ c.loop-row.row-index c.requires.position c.args.sheet.now.scope.short c.requires.whole c.requires.low c.loop-row-test.true c.whole_row.ensures _ c.loop-row.invariant
