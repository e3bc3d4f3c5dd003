use Rattle.boxes.proofs.Counting.{some_decided}
use Rattle.boxes.proofs.OptionBox.has_open.Goals as goal

pub returns : goal.returns
returns c = some_decided c.args.self.now.cells c.args.slot c.cell.result c.cell.ensures c.cell.type_inv
