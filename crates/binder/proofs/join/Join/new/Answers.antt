use Rattle.binder.proofs.Paired.{paired_beside}
use Rattle.binder.proofs.join.Join.new.Goals as goal

pub returns : goal.returns
returns g c = paired_beside _ _ _ _ c.undo_all.ensures c.undo_all-2.ensures
