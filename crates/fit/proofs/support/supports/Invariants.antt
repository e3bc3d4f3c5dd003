use Rattle.std.proofs.Common.{◌-◌, length}
use Rattle.fit.proofs.Masking.{before, Ahead, Passed, Passing}
use Rattle.fit.proofs.support.supports.Given as goal

abbrev pub invariant-rows : goal.invariant-rows
invariant-rows l =
    (goal.iterator-rows).can_next l.block-iterator
    × (goal.iterator-rows).is_finite l.block-iterator
    × Ahead l.rows l.block-iterator.rest.now
    × Passed l.slate.cells l.sheet.scope.slots.now l.rows l.sheet.entries.now l.masks (length l.sheet.scope.slots.now) (before l.rows l.block-iterator.rest.now) l.wanted.bits

abbrev pub invariant-positions : goal.invariant-positions
invariant-positions l =
    (goal.iterator-positions).can_next l.position-iterator
    × (goal.iterator-positions).is_finite l.position-iterator
    × Passing l.slate.cells l.sheet.scope.slots.now l.rows l.sheet.entries.now l.masks (length l.sheet.scope.slots.now) (before l.rows l.block-iterator.rest.now - length l.block) (before l.rows l.block-iterator.rest.now) l.position-iterator.bits l.wanted.bits
