use Rattle.std.proofs.Common.{refl}
use Rattle.planner.proofs.Going.{ended}
use Rattle.planner.proofs.state.Walk.end.Goals as goal

pub returns : goal.returns
returns g c P L a = ended _ P L c.args.self _ refl refl refl refl refl (λ D G m s. c.leave.ensures.law P D G _ m s) a
