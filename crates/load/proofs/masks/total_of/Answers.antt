use Rattle.std.proofs.Common.{◌≡◌, ℤ, pos, ◌+◌, ◌+ℤ◌, get_or, sym, subst, w32, to_z, of_z, rules, arith}
use Rattle.load.proofs.Rest.{SummedTo, summed_more}
use Rattle.load.proofs.masks.total_of.Goals as goal

pub loop-least-preserved : goal.loop-least-preserved
loop-least-preserved c =
    let ms = c.args.leasts.now in
    let i = c.loop-least.least-index in
    let before : ℤ = to_z w32 c.loop-least.sum-bits in
    let x : ℤ = get_or ms i (pos 0) in
    let small = c.requires.small i (omega arith) in
    let e : to_z w32 (of_z w32 (before +ℤ to_z w32 (of_z w32 x))) ≡ before +ℤ x = search rules in
    subst (SummedTo ms (i + 1)) (sym e) (summed_more ms i before c.loop-least.invariant (omega arith) small)
