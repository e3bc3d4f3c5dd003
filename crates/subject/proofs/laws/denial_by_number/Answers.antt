use Rattle.subject.proofs.Numbers.{numbers_apart}
use Rattle.subject.proofs.laws.denial_by_number.Goals as goal

pub returns : goal.returns
returns c = numbers_apart
