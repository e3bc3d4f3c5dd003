use Rattle.settle.proofs.Scopes.{Filling}
use Rattle.settle.proofs.reach.Reach.of.Given as goal

abbrev pub invariant-loop-sheet : goal.invariant-loop-sheet
invariant-loop-sheet g l = Filling (g.B.Binder.meaning l.binder) l.masks l.sheet
