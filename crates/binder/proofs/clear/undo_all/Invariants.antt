use Rattle.binder.proofs.clear.undo_all.Given as goal
use Rattle.binder.proofs.Clearing.{Clearing}

abbrev pub invariant-loop : goal.invariant-loop
invariant-loop g l = Clearing (g.B.Binder.meaning l.initial.binder) (g.B.Binder.meaning l.binder)

abbrev pub decreases-loop : goal.decreases-loop
decreases-loop g l = (g.B.Binder.meaning l.binder).marks
