use Rattle.fit.proofs.Rowing.{CellsSoFar}
use Rattle.fit.proofs.dropping.cells_of.Given as goal

abbrev pub invariant-loop-position : goal.invariant-loop-position
invariant-loop-position l = CellsSoFar l.slate.cells l.scope.slots.now l.cells l.position
