use Rattle.std.proofs.Common.{arith}
use Rattle.fit.proofs.Places.{peeled, peeled_less}
use Rattle.fit.proofs.positions.PositionsIterator.next.Goals as goal

pub returns-clause-steps : goal.returns-clause-steps
returns-clause-steps c = peeled _ _ c.if-bits-eq0.false (omega arith) c.without.ensures

pub returns-clause-goes : goal.returns-clause-goes
returns-clause-goes c =
    let less = peeled_less _ _ _ (peeled _ _ c.if-bits-eq0.false (omega arith) c.without.ensures) in
    record { on = λ _. (tt, tt, less); keeps = tt; rests = λ _. tt }
