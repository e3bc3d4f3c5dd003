use Rattle.std.proofs.Common.{ℕ, ◌<◌, get_or}
use Rattle.boxes.specs.Boxes.{Open}
use Rattle.bar.proofs.tally.fits.Given as goal

abbrev pub invariant-loop-position : goal.invariant-loop-position
invariant-loop-position l = (p : ℕ) → p < l.position → Open l.slate.cells (get_or l.scope.slots.now p 0) (get_or l.row p 0)
