use Rattle.settle.proofs.Scopes.{Partly}
use Rattle.settle.proofs.naming.slots_named.Given as goal

abbrev pub invariant-loop-position : goal.invariant-loop-position
invariant-loop-position g l = Partly (g.B.Binder.meaning l.binder) l.sheet l.position l.set
