use Rattle.std.proofs.Common.{◌≡◌, length}
use Rattle.load.specs.Tables.{weights_in}
use Rattle.load.specs.Weights.{LowestAt}
use Rattle.load.proofs.leasts.leasts_of.Given as goal

abbrev pub invariant-loop-position : goal.invariant-loop-position
invariant-loop-position l = (length l.leasts ≡ 8) × LowestAt l.slate.cells l.scope.slots.now (weights_in l.table) l.position l.leasts
