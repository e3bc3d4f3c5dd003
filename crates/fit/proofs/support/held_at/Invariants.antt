use Rattle.fit.specs.Rows.{Held}
use Rattle.fit.proofs.support.held_at.Given as goal

abbrev pub invariant-loop-row : goal.invariant-loop-row
invariant-loop-row l = Held l.rows l.sheet.entries.now l.row-index l.fn.position l.mask
