use Rattle.std.proofs.Common.{◌≡◌, ◌+◌, ◌-◌, ◌*◌, ◌<◌, ◌≤◌, false, cond, take, length}
use Rattle.std.specs.Io.KnownBytes.{IsAtEnd}
use Rattle.dialogue.proofs.Talking.{Going}
use Rattle.dialogue.proofs.serve.serve.Given as goal

abbrev pub invariant-reads : goal.invariant-reads
invariant-reads g l =
    (length l.buffer ≡ 65536) × (l.from ≤ l.to) × (l.to ≤ 65536) × (l.more ≡ false → l.to < 65536 → IsAtEnd (g.R.Read.remaining l.input))
    × Going {bound = g.B.Binder} g.B.Binder.meaning (g.R.Read.remaining l.initial.input) (g.R.Read.remaining l.input) (g.W.Write.contents l.initial.output) (g.W.Write.contents l.output) (take l.to l.buffer) l.from l.initial.session l.session

abbrev pub decreases-reads : goal.decreases-reads
decreases-reads g l = 2 * (65536 - l.to) + cond l.more 1 0
