use Rattle.session.proofs.state.Session.open.Goals as goal

pub returns : goal.returns
returns g c = c.of.ensures.led _ _ c.open.ensures
