use Rattle.std.proofs.Common.{refl, arith}
use Rattle.planner.proofs.Going.{begun}
use Rattle.planner.proofs.state.Planner.begin.Goals as goal

pub returns : goal.returns
returns g c P L a =
    begun _ P L c.args.self _ _ refl refl refl refl refl refl refl (c.save.ensures (omega (arith, a.stands.marks, c.args.self.deep))) c.new-stack.ensures.top c.new-stack.ensures.first a
