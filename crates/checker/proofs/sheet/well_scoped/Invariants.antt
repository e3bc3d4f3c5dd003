use Rattle.std.proofs.Common.{◌≡◌, length}
use Rattle.catalogue.specs.Checks.{well_scoped}
use Rattle.checker.proofs.sheet.well_scoped.Given as goal

abbrev pub invariant-slots : goal.invariant-slots
invariant-slots l = well_scoped l.slots l.left ≡ well_scoped l.slots l.scope

abbrev pub decreases-slots : goal.decreases-slots
decreases-slots l = length l.left
