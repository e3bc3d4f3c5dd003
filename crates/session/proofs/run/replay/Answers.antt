use Rattle.session.proofs.run.replay.Goals as goal

pub returns : goal.returns
returns g c = record { law = c.run.ensures.law _ _ c.open.ensures; kept = c.run.ensures.kept }
