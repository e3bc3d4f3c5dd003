use Rattle.fit.specs.Laid.{Numbered}
use Rattle.fit.proofs.filling.lay_run.Given as goal

abbrev pub invariant-loop-place : goal.invariant-loop-place
invariant-loop-place l = Numbered l.run l.place
