use Rattle.std.proofs.Common.{◌-◌}
use Rattle.fit.specs.Rows.{Suits}
use Rattle.fit.proofs.Sifting.{Sifting}
use Rattle.fit.proofs.dropping.sift.Given as goal

abbrev pub invariant-loop-place : goal.invariant-loop-place
invariant-loop-place l = Sifting (Suits l.slate.cells l.sheet.scope.slots.now l.sheet.entries.now) l.initial.run l.run l.left l.place

abbrev pub decreases-loop-place : goal.decreases-loop-place
decreases-loop-place l = l.left - l.place
