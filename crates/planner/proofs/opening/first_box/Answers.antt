use Rattle.std.proofs.Common.{◌≡◌, length, take, arith, length-take}
use Rattle.std.proofs.lemmas.Bool.{both_ways}
use Rattle.settle.proofs.Keeping.{resting_none}
use Rattle.planner.proofs.Opened.{started, started_dry}
use Rattle.planner.proofs.opening.first_box.Goals as goal

pub returns-then-not-all_below : goal.returns-then-not-all_below
returns-then-not-all_below g c =
    let w = c.args.slots.now in
    let long : length (take w.count w.sizes) ≡ w.count = rw length-take (omega (arith, w.few, w.long)) in
    started_dry _ w.count _ long w.few _ (λ b. both_ways _ c.if-not-all_below.true (c.all_below.ensures.1 b)) c.none.ensures.none

pub returns : goal.returns
returns g c =
    let w = c.args.slots.now in
    let long : length (take w.count w.sizes) ≡ w.count = rw length-take (omega (arith, w.few, w.long)) in
    started _ w.count _ long w.few _ _ _ _ _ (c.all_below.ensures.0 c.if-not-all_below.false) c.full-slate.ensures c.requires
    (resting_none _ _ _ _ c.full-slate.result.long c.all_slots.ensures.here c.requires) c.settle.ensures
