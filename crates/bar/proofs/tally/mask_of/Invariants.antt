use Rattle.bar.specs.Tally.{Marks, Fewer}
use Rattle.bar.proofs.tally.mask_of.Given as goal

abbrev pub invariant-loop-option : goal.invariant-loop-option
invariant-loop-option l = Marks (Fewer l.counts l.many) l.option l.mask
