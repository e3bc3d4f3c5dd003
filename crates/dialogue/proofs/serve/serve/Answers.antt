use Rattle.std.proofs.Common.{◌≡◌, ◌+◌, ◌-◌, ◌≤◌, length, drop, ⊎_elim, true≢false, arith, length-take}
use Rattle.std.proofs.lemmas.Bool.{cases_lt, both_ways}
use Rattle.dialogue.proofs.Ending.{reads_fall}
use Rattle.dialogue.proofs.Talking.{going_none, going_turn, going_end}
use Rattle.dialogue.proofs.serve.serve.Goals as goal

pub reads-init : goal.reads-init
reads-init g c = (
  omega (arith, c.as_mut_slice-buffer.ensures.len, c.in_ok-bytes.ensures.len),
  omega arith,
  omega arith,
  (λ e. absurd (true≢false e)),
  going_none {bound = g.B.Binder} g.B.Binder.meaning _ _ c.args.session,
)

pub reads-smaller : goal.reads-smaller
reads-smaller g c =
    let within : c.reads.to + c.in_ok-came.came ≤ 65536 = omega (arith, c.in_ok-came.ensures.within, c.read_behind.auto.buffer, c.reads.invariant.0) in
    reads_fall c.reads.to c.in_ok-came.came c.reads.more c.goes_on-more.result c.reads-test.true within (λ e. (c.goes_on-more.ensures.0 e).0)

pub reads-preserved : goal.reads-preserved
reads-preserved g c =
    let to = c.reads.to in
    let came = c.in_ok-came.came in
    let from = c.reads.from in
    let n = c.whole_lines-lines.result in
    let new = c.read_behind.new.buffer in
    let long : length new ≡ 65536 = omega (arith, c.read_behind.auto.buffer, c.reads.invariant.0) in
    let within : to + came ≤ 65536 = omega (arith, c.in_ok-came.ensures.within, long) in
    let some : n ≤ to + came - from = omega (arith, c.whole_lines-lines.ensures.within, length-take (to + came - from) (drop from new)) in
    let spoke = c.in_ok-session.ensures in (
      long,
      omega (arith, some, c.reads.invariant.1),
      within,
      (λ no lt.
          ⊎_elim
          (λ came. absurd (both_ways _ no (c.goes_on-more.ensures.1 (came, lt))))
          (λ none. c.in_ok-came.ensures.end (omega (arith, none)) (omega (arith, lt, c.reads.invariant.0)))
          (cases_lt 0 came)),
      going_turn {bound = g.B.Binder} g.B.Binder.meaning _ _ _ _ _ _ c.reads.buffer new spoke.0 from to came n _ _ _ c.reads.invariant.1 c.in_ok-came.ensures.front c.in_ok-came.ensures.taken
          c.whole_lines-lines.ensures spoke.1 spoke.2 c.reads.invariant.4,
    )

pub returns : goal.returns
returns g c =
    let inv = c.reads.invariant in
    going_end {bound = g.B.Binder} g.B.Binder.meaning _ _ _ _ _ c.reads.buffer c.reads.from c.reads.to _ _ c.speak-2.result inv.1 (omega (arith, inv.0, inv.2)) inv.2
    (inv.3 c.reads-test.false) c.speak-2.ensures inv.4
