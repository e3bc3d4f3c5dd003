use Rattle.binder.proofs.Numbers.{numbers_apart}
use Rattle.binder.proofs.laws.refusal_by_number.Goals as goal

pub returns : goal.returns
returns c = numbers_apart
