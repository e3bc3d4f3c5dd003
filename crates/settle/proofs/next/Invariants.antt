use Rattle.std.proofs.Common.{ℕ, ◌<◌, ◌≤◌, get_or}
use Rattle.boxes.specs.Slots.{Disjoint}
use Rattle.settle.proofs.next.Given as goal

abbrev pub invariant-loop-sheet : goal.invariant-loop-sheet
invariant-loop-sheet l = (s : ℕ) → l.from ≤ s → s < l.sheet → Disjoint (get_or l.reach.masks s 0) l.lost
