use Rattle.settle.specs.Waiting.{Looked}
use Rattle.settle.proofs.waiting.Waiting.look.Given as goal

abbrev pub invariant-loop : goal.invariant-loop
invariant-loop l = Looked l.initial.self l.self l.slate.cells l.sheet
