use Rattle.std.proofs.Common.{◌≡◌}
use Rattle.explore.specs.Stacks.{weight_of}
use Rattle.planner.proofs.Going.{Turning}
use Rattle.planner.proofs.state.Walk.next.Given as goal

abbrev pub invariant-turns : goal.invariant-turns
invariant-turns g l = Turning g.B.Binder.meaning l.initial.self l.self × (l.memory ≡ l.initial.memory)

abbrev pub decreases-turns : goal.decreases-turns
decreases-turns g l = weight_of l.self.stack
