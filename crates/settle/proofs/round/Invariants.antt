use Rattle.std.proofs.Common.{◌-◌, ◌≤◌}
use Rattle.settle.specs.Passed.{Passed}
use Rattle.settle.proofs.round.Given as goal

abbrev pub invariant-loop-sheet : goal.invariant-loop-sheet
invariant-loop-sheet g l =
    let m = g.B.Binder.meaning in
    record {
      passed : Passed (m l.initial.binder) (m l.binder) l.reach.masks l.initial.waiting l.waiting l.initial.slate.cells l.slate.cells l.sheet;
      few : l.sheet ≤ l.count;
    }

abbrev pub decreases-loop-sheet : goal.decreases-loop-sheet
decreases-loop-sheet g l = l.count - l.sheet
