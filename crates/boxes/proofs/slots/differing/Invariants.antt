use Rattle.boxes.specs.Slots.{Changed}
use Rattle.boxes.proofs.slots.differing.Given as goal

abbrev pub invariant-loop-slot : goal.invariant-loop-slot
invariant-loop-slot l = Changed l.cells l.others l.slot l.set
