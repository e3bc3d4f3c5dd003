use Rattle.std.proofs.Common.{◌+◌}
use Rattle.settle.proofs.Passing.{passed_none, passed_next}
use Rattle.settle.proofs.round.Goals as goal

pub loop-sheet-init : goal.loop-sheet-init
loop-sheet-init g c = record { passed = passed_next _ _ _ _ _ _ _ 0 _ _ (passed_none _ _ _ _ c.requires) (rw c.lost.ensures at c.next-sheet.ensures); few = c.next-sheet.ensures.few }

pub returns-then-not-alive-clause-tight : goal.returns-then-not-alive-clause-tight
returns-then-not-alive-clause-tight g c = (c.ask.ensures _ _ _ c.loop-sheet.invariant.passed).tight

pub loop-sheet-preserved : goal.loop-sheet-preserved
loop-sheet-preserved g c = record {
  passed = passed_next _ _ _ _ _ _ _ (c.loop-sheet.sheet + 1) _ _ (c.ask.ensures _ _ _ c.loop-sheet.invariant.passed) (rw c.lost-in-loop-sheet.ensures at c.next-sheet-in-loop-sheet.ensures);
  few = c.next-sheet-in-loop-sheet.ensures.few;
}
