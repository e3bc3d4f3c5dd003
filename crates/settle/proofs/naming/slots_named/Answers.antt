use Rattle.std.proofs.Common.{◌<◌, length, arith}
use Rattle.settle.proofs.Scopes.{partly_none, partly_more, named_all, positions, there, slot_is}
use Rattle.settle.proofs.naming.slots_named.Goals as goal

pub loop-position-init : goal.loop-position-init
loop-position-init g c = partly_none _ _

pub loop-position-preserved : goal.loop-position-preserved
loop-position-preserved g c =
    let m = g.B.Binder.meaning c.args.binder.now in
    let hs : c.args.sheet < m.count = there m c.args.sheet _ c.loop-position.position _ c.arity.ensures c.unwrap_or-position-end.ensures c.loop-position-test.true in
    let hp : c.loop-position.position < length (m.scope c.args.sheet) =
    omega (arith, positions m c.args.sheet _ _ c.arity.ensures c.unwrap_or-position-end.ensures hs, c.loop-position-test.true) in
    let e = slot_is m c.args.sheet c.loop-position.position _ _ c.slot_at.ensures c.unwrap_or.ensures hs hp in
    partly_more m c.args.sheet c.loop-position.position _ _ _ hs hp e c.loop-position.invariant c.with_slot-set.ensures

pub returns : goal.returns
returns g c =
    let m = g.B.Binder.meaning c.args.binder.now in
    named_all m c.args.sheet c.loop-position.position _ (λ hs. omega (arith, positions m c.args.sheet _ _ c.arity.ensures c.unwrap_or-position-end.ensures hs, c.loop-position-test.false)) c.loop-position.invariant
