use Rattle.std.proofs.Common.{length}
use Rattle.fit.specs.Laid.{Runs}
use Rattle.fit.proofs.filling.run_places.Given as goal

abbrev pub invariant-runs : goal.invariant-runs
invariant-runs l = Runs l.starts l.counts l.order (length l.yielded)
