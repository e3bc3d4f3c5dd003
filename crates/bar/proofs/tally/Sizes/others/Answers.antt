use Rattle.std.proofs.Common.{◌≡◌, ℕ, ◌+◌, ◌*◌, get_or, take, sym, subst, get_or-take, arith}
use Rattle.bar.proofs.Products.{Multiplied, multiplied_more, multiplied_same, multiplied_whole}
use Rattle.bar.proofs.tally.Sizes.others.Goals as goal
use Rattle.bar.proofs.tally.Sizes.others.Goals.{then-place-position, else-place-position}

pub loop-place-preserved : goal.loop-place-preserved
loop-place-preserved c =
    let s = c.args.self.now in
    let e : get_or (take s.arity s.each) c.loop-place.place 0 ≡ get_or s.each c.loop-place.place 0 = get_or-take s.arity s.each c.loop-place.place 0 (omega arith) in
    elim c.if-place-position.branch [
      | then-place-position w ↦ rw w.many-is
          (subst (λ (n : ℕ). Multiplied s.each c.args.position (c.loop-place.place + 1) (c.loop-place.many * n)) (sym e)
          (multiplied_more s.each c.args.position c.loop-place.place c.loop-place.many (omega arith) c.loop-place.invariant w.if-place-position.true (s.low c.loop-place.place (omega arith))))
      | else-place-position w ↦ rw w.many-is
          (multiplied_same s.each c.args.position c.loop-place.place c.loop-place.many (omega arith) c.loop-place.invariant w.if-place-position.false)
    ]

pub returns : goal.returns
returns c =
    let s = c.args.self.now in
    multiplied_whole s.each c.args.position c.loop-place.place c.loop-place.many c.loop-place.invariant (λ p h l. s.past p (omega arith) (omega arith))
