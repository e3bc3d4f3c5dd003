use Rattle.std.proofs.Common.{refl}
use Rattle.settle.proofs.Sparing.{looked_one}
use Rattle.settle.proofs.Losing.{loses_differ}
use Rattle.settle.proofs.waiting.Waiting.note.Goals as goal

pub returns : goal.returns
returns c =
    let w = c.args.self.now in
    looked_one w _ c.args.slate.now.cells c.args.sheet c.args.slot c.requires.slot w.known.long w.long refl c.with_slot-self.ensures refl refl c.requires.less
    (loses_differ w.known.cells c.args.slate.now.cells c.requires.less c.if-not-differ.ensures)
