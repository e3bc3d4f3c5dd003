use Rattle.explore.proofs.Turning.{exploring_left}
use Rattle.explore.proofs.stack.Stack.leave.Goals as goal

pub returns : goal.returns
returns g c = record { law = λ P D G X m a. exploring_left P D G X m _ _ _ _ _ a c.rewind.ensures; rewound = c.rewind.ensures }
