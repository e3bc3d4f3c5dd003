use Rattle.std.proofs.Common.{◌<◌, ◌≤◌, subst, arith}
use Rattle.catalogue.proofs.Held.{held}
use Rattle.catalogue.proofs.Told.{slot_inside, slot_told, slot_none}
use Rattle.catalogue.proofs.checked.Catalogue.options.Goals as goal

pub bounds-self-slot : goal.bounds-self-slot
bounds-self-slot c =
    let s = c.args.self.now in
    let h = slot_inside s.bytes.now s.counts c.args.slot (held _ _ s.accepted s.octets) (subst (λ n. c.args.slot < n) c.from.ensures c.if-slot-from.true) in
    omega arith

pub returns-then-slot-from : goal.returns-then-slot-from
returns-then-slot-from c =
    let s = c.args.self.now in
    slot_told s.bytes.now s.counts c.args.slot (held _ _ s.accepted s.octets) (subst (λ n. c.args.slot < n) c.from.ensures c.if-slot-from.true)

pub returns-else-slot-from : goal.returns-else-slot-from
returns-else-slot-from c =
    let s = c.args.self.now in
    slot_none s.bytes.now s.counts c.args.slot (held _ _ s.accepted s.octets) (subst (λ n. n ≤ c.args.slot) c.from.ensures c.if-slot-from.false)
