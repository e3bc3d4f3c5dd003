use Rattle.std.proofs.Common.{◌≡◌, length}
use Rattle.std.specs.Slice.Iter.{chunks_exact_rest, chunks_exact_size}
use Rattle.bar.proofs.Passes.{Counting}
use Rattle.bar.proofs.tally.Tally.count.Given as goal

abbrev pub invariant-loop-row : goal.invariant-loop-row
invariant-loop-row l = (chunks_exact_size l.row-iterator ≡ 9)
    × Counting l.slate.cells l.sheet.scope.slots.now l.sheet.entries.now (length l.yielded) (chunks_exact_rest l.row-iterator) l.self.counts
