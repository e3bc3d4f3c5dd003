use Rattle.std.proofs.Common.{◌≡◌, ◌<◌, min, length, get_or, take, None, arith, length-take}
use Rattle.std.proofs.lemmas.Bool.{both_ways}
use Rattle.std.proofs.lemmas.List.{get_or-take}
use Rattle.session.specs.Running.{Replied}
use Rattle.session.proofs.Steps.{running_none, running_more}
use Rattle.session.proofs.Laws.{ran, kept}
use Rattle.session.proofs.state.Session.run.Goals as goal
use Rattle.session.proofs.state.Session.run.Goals.{then-crosses, else-crosses}

pub loop-at-init : goal.loop-at-init
loop-at-init g c = running_none _ _ _ _ _

pub loop-at-preserved : goal.loop-at-preserved
loop-at-preserved g c =
    let lines = c.args.lines.now in
    let at = c.loop-at.at in
    let count = c.min-count.result in
    let below : at < count = omega (arith, length-take count lines, c.loop-at-test.true) in
    let room : at < length c.loop-at.replies = omega (arith, c.min-count.ensures, c.loop-at.auto.replies) in
    let line : get_or (take count lines) at None ≡ get_or lines at None = get_or-take count lines at None below in
    let more : Replied g.B.Binder.meaning (get_or lines at None) c.if-crosses.replies c.loop-at.self c.if-crosses.self c.loop-at.memory c.if-crosses.memory =
    elim c.if-crosses.branch [
      | then-crosses w ↦ rw (w.memory-is, w.self-is, w.replies-is) (w.cross-self.ensures _ _ (rw line at (c.crosses.ensures.0 w.if-crosses.true)))
      | else-crosses w ↦
          let given = rw line at w.reply.ensures in
          rw (w.memory-is, w.self-is, w.replies-is) (given (λ x. both_ways _ w.if-crosses.false (c.crosses.ensures.1 (rw (← line) at x))))
    ] in
    running_more _ _ at _ _ _ _ _ _ _ _ _ c.loop-at.invariant room more c.if-crosses.auto.memory

pub returns : goal.returns
returns g c =
    let all : c.loop-at.at ≡ min (length c.args.lines.now) (length c.args.replies.now) = omega (arith, length-take c.min-count.result c.args.lines.now, c.loop-at-test.false, c.min-count.ensures, c.loop-at.auto.at-end) in
    let run = rw all at c.loop-at.invariant in
    record { law = λ P L h. ran _ P L _ _ _ _ _ _ _ _ run h; kept = kept _ _ _ _ _ _ _ _ _ run }
