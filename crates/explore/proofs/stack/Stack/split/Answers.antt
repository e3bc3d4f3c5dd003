use Rattle.std.proofs.Common.{arith, length-set, subst}
use Rattle.boxes.specs.Boxes.{Lowest}
use Rattle.explore.proofs.Stacking.{room, divided}
use Rattle.explore.proofs.stack.Stack.split.Goals as goal

pub listed-2 : goal.listed-2
listed-2 c =
    let t = c.args.self.now in
    simp length-set (omega (arith, room t _ c.args.slot c.requires.top c.requires.inside c.requires.loose, t.tall.1))

pub bounds-self-self-2 : goal.bounds-self-self-2
bounds-self-self-2 c = room c.args.self.now _ c.args.slot c.requires.top c.requires.inside c.requires.loose

pub bounds-self-self-4 : goal.bounds-self-self-4
bounds-self-self-4 c = room c.args.self.now _ c.args.slot c.requires.top c.requires.inside c.requires.loose

pub invariant_of-self : goal.invariant_of-self
invariant_of-self c =
    let t = c.args.self.now in
    let low = subst (Lowest c.args.slate.now.cells c.args.slot) c.unwrap-option.ensures c.lowest.ensures in
    let d = divided t c.args.slate.now c.close.new.self c.fix.new.self _ c.args.slot c.unwrap-option.result c.slot_alone-lost.ensures
    c.requires.top c.requires.inside c.requires.loose low c.close.ensures c.fix.ensures in
    record { tall = (omega (arith, room t _ c.args.slot c.requires.top c.requires.inside c.requires.loose), simp length-set t.tall.1); even = simp length-set t.even; narrow = d.narrow }

pub returns : goal.returns
returns c =
    let low = subst (Lowest c.args.slate.now.cells c.args.slot) c.unwrap-option.ensures c.lowest.ensures in
    let d = divided c.args.self.now c.args.slate.now c.close.new.self c.fix.new.self _ c.args.slot c.unwrap-option.result c.slot_alone-lost.ensures
    c.requires.top c.requires.inside c.requires.loose low c.close.ensures c.fix.ensures in
    record { top = omega (arith, c.requires.top); split = d.split; less = d.less }
