use Rattle.std.proofs.Common.{◌≡◌, ap, ◌∙◌, arith}
use Rattle.fit.proofs.Masking.{ahead_all, ahead_next, block_ahead, passed_first, passing_start, passing_more, passing_full, passing_end, passed_full}
use Rattle.fit.proofs.support.supports.Goals as goal

pub rows-init : goal.rows-init
rows-init c =
    let gives = c.into_iter-block-iterator.ensures.into_iter_gives in
    let all : c.into_iter-block-iterator.result.rest.now ≡ c.args.rows.now = ap (λ s. s.rest.now) gives ∙ c.chunks-block-items.ensures.rest in
    (omega (arith, ap (λ s. s.size) gives, c.chunks-block-items.ensures.size), tt, ahead_all _ _ all, passed_first _ _ _ _ _ _ _ all c.first-wanted.ensures)

pub positions-init : goal.positions-init
positions-init c =
    let x = c.rows.invariant in
    (tt, tt, passing_start _ _ _ _ _ _ _ c.in-Some.block.now _ _ _ x.2 c.in-Some.ensures.steps.1.0 (ap (λ s. s.bits) c.into_iter-position-iterator.ensures.into_iter_gives) x.3)

pub rows-preserved : goal.rows-preserved
rows-preserved c =
    let x = c.rows.invariant in (
      omega (arith, x.0, c.in-Some.ensures.steps.0),
      tt,
      ahead_next _ _ c.in-Some.block.now _ x.2 c.in-Some.ensures.steps.1.0,
      passing_end _ _ _ _ _ _ _ _ _ _ c.in-None-position.ensures.steps.0 c.positions.invariant.2,
    )

pub without-wanted-requires : goal.without-wanted-requires
without-wanted-requires c =
    let p = c.positions.invariant.2 in
    let lt = p.known _ (p.among _ c.in-Some-position.ensures.steps.here) in omega (arith, lt, c.args.sheet.now.scope.short)

pub positions-preserved : goal.positions-preserved
positions-preserved c =
    let x = block_ahead _ _ c.in-Some.block.now _ c.rows.invariant.2 c.in-Some.ensures.steps.1.0 in
    (tt, tt, passing_more _ _ _ _ _ _ c.in-Some.block.now _ _ _ _ _ _ _ c.args.sheet.now.scope.short c.in-Some-position.ensures.steps x c.held_at.ensures c.positions.invariant.2)

pub positions-preserved-else-is_empty : goal.positions-preserved-else-is_empty
positions-preserved-else-is_empty c =
    let x = block_ahead _ _ c.in-Some.block.now _ c.rows.invariant.2 c.in-Some.ensures.steps.1.0 in
    let more = passing_more _ _ _ _ _ _ c.in-Some.block.now _ _ _ _ _ _ _ c.args.sheet.now.scope.short c.in-Some-position.ensures.steps x c.held_at.ensures c.positions.invariant.2 in
    (tt, tt, passing_full _ _ _ _ _ _ _ _ _ _ _ _ c.in-Some-position.ensures.steps.rest.gone c.without-wanted.ensures c.if-masks-position.true more)

pub returns-then-is_empty : goal.returns-then-is_empty
returns-then-is_empty c =
    let x = block_ahead _ _ c.in-Some.block.now _ c.rows.invariant.2 c.in-Some.ensures.steps.1.0 in
    let more = passing_more _ _ _ _ _ _ c.in-Some.block.now _ _ _ _ _ _ _ c.args.sheet.now.scope.short c.in-Some-position.ensures.steps x c.held_at.ensures c.positions.invariant.2 in
    let done = passing_full _ _ _ _ _ _ _ _ _ _ _ _ c.in-Some-position.ensures.steps.rest.gone c.without-wanted.ensures c.if-masks-position.true more in
    passed_full _ _ _ _ _ _ _ _ _ _ x.within (c.is_empty.ensures.0 c.if-is_empty.true) done
