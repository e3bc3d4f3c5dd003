use Rattle.binder.proofs.Supported.{held_supported}
use Rattle.binder.proofs.laws.held_is_supported.Goals as goal

pub returns : goal.returns
returns c = held_supported
