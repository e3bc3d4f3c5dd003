use Rattle.settle.proofs.Sparing.{last_full}
use Rattle.settle.proofs.waiting.Waiting.new.Goals as goal

pub returns-clause-last : goal.returns-clause-last
returns-clause-last c = last_full
