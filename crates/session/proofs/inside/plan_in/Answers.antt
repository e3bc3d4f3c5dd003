use Rattle.session.proofs.Plans.{plan_front}
use Rattle.session.proofs.inside.plan_in.Goals as goal

pub returns : goal.returns
returns c = plan_front c.args.count _ _ c.args.memory.now _ c.new.ensures c.copy_from_slice.ensures.after c.requires.0
