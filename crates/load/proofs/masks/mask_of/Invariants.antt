use Rattle.load.proofs.Masking.{MaskSoFar}
use Rattle.load.proofs.masks.mask_of.Given as goal

abbrev pub invariant-options : goal.invariant-options
invariant-options l =
    (goal.iterator-options).can_next l.option-iterator
    × (goal.iterator-options).is_finite l.option-iterator
    × MaskSoFar l.weights.amounts l.fn.rest l.fn.«cap» l.cell l.option-iterator.left l.mask
