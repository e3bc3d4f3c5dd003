use Rattle.explore.specs.Rewound.{Rewound}
use Rattle.explore.proofs.rewind.rewind.Given as goal

abbrev pub invariant-loop : goal.invariant-loop
invariant-loop g l = let m = g.B.Binder.meaning in Rewound (m l.initial.binder) (m l.binder) l.counter
