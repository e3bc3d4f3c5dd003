use Rattle.std.proofs.Common.{refl, arith, rules}
use Rattle.subject.specs.Logs.{look, look_no_slot}
use Rattle.planner.proofs.Steps.{refused_stays, slots_are, looked}
use Rattle.planner.proofs.state.Planner.look.Goals as goal

pub returns-then-slot-self : goal.returns-then-slot-self
returns-then-slot-self g c P L a =
    refused_stays _ P L _ (look c.args.slot) 21 a refl refl (look_no_slot (omega (arith, slots_are _ P _ _ a.stands, c.if-slot-self.true)))

pub returns : goal.returns
returns g c P L a = looked _ P L _ c.args.slot (omega (arith, c.if-slot-self.false)) (search rules) a
