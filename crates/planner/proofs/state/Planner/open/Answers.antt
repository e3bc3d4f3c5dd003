use Rattle.std.proofs.Common.{refl}
use Rattle.settle.proofs.Scopes.{covers_named}
use Rattle.planner.proofs.Opened.{opened_at_lem, slots_small, slots_some}
use Rattle.planner.proofs.state.Planner.open.Goals as goal

pub returns : goal.returns
returns g c =
    let k = c.args.catalogue.now in
    opened_at_lem _ _ _ _ _ c.undo_all.ensures c.first_box-slate.ensures c.slots_of-slots.ensures (covers_named _ _ c.of-reach.ensures) refl (slots_small k.bytes.now k.counts k.accepted k.octets)
    (slots_some k.bytes.now k.counts k.accepted k.octets)
