use Rattle.std.proofs.Common.{◌+◌, rules, arith, subst, sym}
use Rattle.boxes.specs.Slots.{Changed}
use Rattle.boxes.proofs.Sets.{changed_none, changed_more, changed_same}
use Rattle.boxes.proofs.slots.differing.Goals as goal
use Rattle.boxes.proofs.slots.differing.Goals.{then-cells-slot, else-cells-slot}

pub loop-slot-init : goal.loop-slot-init
loop-slot-init c = changed_none _ _

pub loop-slot-preserved : goal.loop-slot-preserved
loop-slot-preserved c =
    let s = c.loop-slot.slot in
    elim c.if-cells-slot.branch [
      | then-cells-slot w ↦ subst (Changed c.args.cells.now c.args.others.now (s + 1)) (sym w.set-is) (changed_more _ _ s c.loop-slot.set _ (omega arith) (search rules) (search rules) w.if-cells-slot.true c.loop-slot.invariant w.with_slot-set.ensures)
      | else-cells-slot w ↦ subst (Changed c.args.cells.now c.args.others.now (s + 1)) (sym w.set-is) (changed_same _ _ s c.loop-slot.set w.if-cells-slot.false c.loop-slot.invariant)
    ]
