use Rattle.boxes.proofs.Bits.{closed}
use Rattle.boxes.proofs.OptionBox.close.Goals as goal

pub returns : goal.returns
returns c = closed _ _ c.args.slot c.args.option _ c.bit.type_inv c.bit.ensures c.restrict.ensures
