use Rattle.boxes.proofs.Bits.{opened, opened_past}
use Rattle.boxes.proofs.OptionBox.open.Goals as goal

pub returns-then-slot-lt-SLOTS : goal.returns-then-slot-lt-SLOTS
returns-then-slot-lt-SLOTS c = opened c.args.self.now.cells c.args.slot c.args.option _ c.args.self.now.long c.if-slot-lt-SLOTS.true c.bit.ensures

pub returns-else-slot-lt-SLOTS : goal.returns-else-slot-lt-SLOTS
returns-else-slot-lt-SLOTS c = opened_past c.args.self.now.cells c.args.slot c.args.option c.if-slot-lt-SLOTS.false
