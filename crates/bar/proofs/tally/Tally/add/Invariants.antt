use Rattle.bar.specs.Tally.{Tallied}
use Rattle.bar.proofs.tally.Tally.add.Given as goal

abbrev pub invariant-loop-position : goal.invariant-loop-position
invariant-loop-position l = Tallied l.options l.position l.initial.self.counts l.self.counts
