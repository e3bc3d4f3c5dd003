use Rattle.session.specs.Running.{Running}
use Rattle.session.proofs.state.Session.run.Given as goal

abbrev pub invariant-loop-at : goal.invariant-loop-at
invariant-loop-at g l = Running g.B.Binder.meaning l.lines l.at l.initial.replies l.replies l.initial.self l.self l.initial.memory l.memory
