use Rattle.boxes.proofs.Bits.{none_open}
use Rattle.boxes.proofs.OptionBox.none.Goals as goal

pub returns-clause-none : goal.returns-clause-none
returns-clause-none c = none_open
