use Rattle.bar.proofs.Products.{Multiplied}
use Rattle.bar.proofs.tally.Sizes.others.Given as goal

abbrev pub invariant-loop-place : goal.invariant-loop-place
invariant-loop-place l = Multiplied l.self.each l.position l.place l.many
