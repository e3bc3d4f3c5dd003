use Rattle.std.proofs.Common.{length}
use Rattle.sheets.specs.Closing.{Narrowed}
use Rattle.sheets.proofs.closing.keep_only.Given as goal

abbrev pub invariant-positions : goal.invariant-positions
invariant-positions l = Narrowed l.initial.slate.cells l.slate.cells l.scope l.masks (length l.yielded)
