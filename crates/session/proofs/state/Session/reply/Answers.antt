use Rattle.session.proofs.state.Session.reply.Goals as goal

pub returns-in-Outside : goal.returns-in-Outside
returns-in-Outside g c ne = rw c.in-Outside.is (c.outside.ensures c.args.memory.now (rw c.in-Outside.is at ne))
