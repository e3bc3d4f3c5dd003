use Rattle.checker.proofs.Tests.{scoped_out, scoped_twice, scoped_on}
use Rattle.checker.proofs.sheet.well_scoped.Goals as goal
use Rattle.checker.proofs.sheet.well_scoped.Goals.{then-slot-slots-via-then-slot-slots, then-slot-slots-via-else-slot-slots+then-contains}

pub returns-then-slot-slots : goal.returns-then-slot-slots
returns-then-slot-slots c =
    let x = c.in-Some.slot.now in
    let xs = c.in-Some.others.now in
    let is = c.in-Some.ensures.cases.0 in
    elim c.then-slot-slots.branch [
      | then-slot-slots-via-then-slot-slots w ↦ scoped_out c.args.slots x xs _ _ is c.slots.invariant w.if-slot-slots.true
      | then-slot-slots-via-else-slot-slots+then-contains w ↦ scoped_twice c.args.slots x xs _ _ is c.slots.invariant _ w.contains.ensures.value w.if-contains.true
    ]

pub slots-preserved : goal.slots-preserved
slots-preserved c =
    scoped_on c.args.slots c.in-Some.slot.now c.in-Some.others.now _ _ c.in-Some.ensures.cases.0 c.slots.invariant _ c.contains.ensures.value c.if-slot-slots.false c.if-contains.false
