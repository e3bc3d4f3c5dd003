use Rattle.std.proofs.Common.{◌∙◌, arith}
use Rattle.explore.proofs.Stacking.{last_box}
use Rattle.explore.proofs.stack.Stack.next.Goals as goal

pub returns : goal.returns
returns c = let t = c.args.self.now in last_box t.boxes t.top _ (omega (arith, t.tall)) (c.copied.ensures ∙ c.last.ensures.value)
