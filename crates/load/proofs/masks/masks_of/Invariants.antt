use Rattle.std.proofs.Common.{◌≡◌, length}
use Rattle.load.specs.Tables.{weights_in}
use Rattle.load.specs.Weights.{MaskedAt}
use Rattle.load.proofs.masks.masks_of.Given as goal

abbrev pub invariant-loop-position : goal.invariant-loop-position
invariant-loop-position l = (length l.masks ≡ 8) × MaskedAt l.slate.cells l.sheet.scope.slots.now (weights_in l.table) l.leasts l.sheet.«cap» l.position l.masks
