use Rattle.std.proofs.Common.{refl, inr}
use Rattle.settle.proofs.Sparing.{turned_seen, turned_unseen, last_full}
use Rattle.settle.proofs.Losing.{loses_some}
use Rattle.settle.proofs.waiting.Waiting.turn.Goals as goal

pub returns-then-unseen-eq0-clause-turned : goal.returns-then-unseen-eq0-clause-turned
returns-then-unseen-eq0-clause-turned c =
    let w = c.args.self.now in
    turned_seen w _ c.args.slate.now.cells c.changed-unseen.result w.known.long c.requires c.changed-unseen.ensures c.if-unseen-eq0.true refl refl refl refl

pub returns-clause-turned : goal.returns-clause-turned
returns-clause-turned c =
    let w = c.args.self.now in
    turned_unseen w _ c.args.slate.now.cells c.changed-unseen.result w.known.long c.changed-unseen.ensures refl last_full refl refl

pub returns-clause-lost : goal.returns-clause-lost
returns-clause-lost c = inr (loses_some _ _ _ c.requires c.changed-unseen.ensures c.if-unseen-eq0.false)
