use Rattle.subject.specs.Boxes.{opened}
use Rattle.boxes.specs.Boxes.{opens}
use Rattle.settle.proofs.Passing.{Going}
use Rattle.settle.proofs.settle.Given as goal

abbrev pub invariant-rounds : goal.invariant-rounds
invariant-rounds g l =
    let m = g.B.Binder.meaning in
    Going (m l.initial.binder) (m l.binder) l.reach.masks l.fn.lost l.waiting l.initial.slate.cells l.slate.cells

abbrev pub decreases-rounds : goal.decreases-rounds
decreases-rounds g l = opened (opens l.slate.cells)
