use Rattle.std.proofs.Common.{refl, arith}
use Rattle.explore.specs.Narrow.{box_at}
use Rattle.explore.proofs.Stacking.{narrow_low}
use Rattle.explore.proofs.stack.Stack.new.Goals as goal

pub invariant_of-result : goal.invariant_of-result
invariant_of-result c = record { tall = (omega arith, refl); even = refl; narrow = ∣ narrow_low _ _ (omega arith) ∣₁ }

pub returns : goal.returns
unfolding box_at
returns c = record { top = refl; first = refl; lost = refl }
