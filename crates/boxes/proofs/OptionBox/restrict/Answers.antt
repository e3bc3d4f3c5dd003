use Rattle.boxes.proofs.Bits.{restricted, restricted_past}
use Rattle.boxes.proofs.OptionBox.restrict.Goals as goal

pub returns-then-slot-lt-SLOTS : goal.returns-then-slot-lt-SLOTS
returns-then-slot-lt-SLOTS c = restricted c.args.self.now.cells c.args.slot c.args.mask c.args.self.now.long c.if-slot-lt-SLOTS.true

pub returns-else-slot-lt-SLOTS : goal.returns-else-slot-lt-SLOTS
returns-else-slot-lt-SLOTS c = restricted_past c.args.self.now.cells c.args.slot c.args.mask c.args.self.now.long c.if-slot-lt-SLOTS.false
