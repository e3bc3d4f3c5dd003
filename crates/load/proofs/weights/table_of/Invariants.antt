use Rattle.std.proofs.Common.{◌≡◌, map}
use Rattle.load.proofs.Weighing.{Reading}
use Rattle.load.proofs.weights.table_of.Given as goal

abbrev pub invariant-entries : goal.invariant-entries
invariant-entries l =
    (goal.iterator-entries).can_next l.entry-iterator
    × (goal.iterator-entries).is_finite l.entry-iterator
    × (l.entry-iterator.size ≡ 5)
    × Reading l.entries (map (λ w. w.amounts) l.weights) l.entry-iterator.rem.now l.entry-iterator.rest.now
