use Rattle.settle.specs.Waiting.{Passing}
use Rattle.settle.proofs.waiting.Waiting.has.Given as goal

abbrev pub invariant-loop : goal.invariant-loop
invariant-loop l = Passing l.initial.self l.self l.sheet
