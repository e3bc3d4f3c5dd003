use mathlib.Core.Logic.{∥∥₁_map}
use Rattle.std.proofs.Common.{arith}
use Rattle.explore.proofs.Stacking.{narrow_fewer}
use Rattle.explore.proofs.stack.Stack.drop_next.Goals as goal

pub invariant_of-self : goal.invariant_of-self
invariant_of-self g c = let t = c.args.self.now in record { tall = (omega (arith, t.tall.0), t.tall.1); even = t.even; narrow = ∥∥₁_map t.narrow (narrow_fewer _ t.top _ (omega arith)) }
