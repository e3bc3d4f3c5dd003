use Rattle.load.proofs.Rest.{SummedTo}
use Rattle.load.proofs.masks.total_of.Given as goal

abbrev pub invariant-loop-least : goal.invariant-loop-least
invariant-loop-least l = SummedTo l.leasts l.least-index l.sum
