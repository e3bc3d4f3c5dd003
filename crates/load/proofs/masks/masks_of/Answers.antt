use Rattle.std.proofs.Common.{◌≡◌, ◌<◌, ℤ, pos, ◌-ℤ◌, length, get_or, sym, ◌∙◌, ap, subst, w32, to_z, of_z, rules, arith, length-set}
use Rattle.load.specs.Weights.{Masked, Allowed, cell_at, rest_of}
use Rattle.load.proofs.Rest.{rest_is}
use Rattle.load.proofs.Tables.{weights_at}
use Rattle.load.proofs.Supporting.{masked_more}
use Rattle.load.proofs.masks.masks_of.Goals as goal

pub loop-position-preserved : goal.loop-position-preserved
loop-position-preserved c =
    let ms = c.args.leasts.now in
    let b = c.args.slate.now.cells in
    let scope = c.args.sheet.now.scope.slots.now in
    let masks = c.loop-position.masks in
    let n = c.loop-position.position in
    let there : n < length ms = omega (arith, c.requires.long) in
    let long = c.loop-position.invariant.0 in
    let x : ℤ = get_or ms n (pos 0) in
    let total : ℤ = c.total_of-total.result in
    let rest : ℤ = to_z w32 (of_z w32 (to_z w32 (of_z w32 total) -ℤ to_z w32 (of_z w32 x))) in
    let small = c.requires.small n there in
    let same : rest ≡ total -ℤ x = search rules in
    let e : rest ≡ rest_of ms n = rest_is ms n rest there (same ∙ ap (λ t. t -ℤ x) c.total_of-total.ensures.sum) in
    let given : ℤ = c.args.sheet.now.«cap» in
    let limit : to_z w32 (of_z w32 given) ≡ given = search rules in (
      length-set masks n c.mask_of.result ∙ long,
      masked_more b scope _ ms _ _ rest masks n c.mask_of.result (omega arith) limit e c.loop-position.invariant.1
          (subst (λ ws. Masked (Allowed ws rest (to_z w32 (of_z w32 given)) (cell_at b scope n)) c.mask_of.result) (sym (weights_at c.args.table.now.weights n)) c.mask_of.ensures),
    )
