use Rattle.std.proofs.Common.{ℕ, ◌+◌, ◌*◌, ◌<◌, ◌≤◌, length, arith}
use Rattle.std.proofs.lemmas.Bool.{both_ways}
use Rattle.sheets.specs.Tables.{option_at}
use Rattle.fit.proofs.Rowing.{suits_open, open_suits}
use Rattle.fit.proofs.Sifting.{sifting_each, sifting_good, sifting_bad}
use Rattle.fit.proofs.dropping.sift.Goals as goal

pub row_fits-requires-clause-whole : goal.row_fits-requires-clause-whole
row_fits-requires-clause-whole c =
    let x = c.loop-place.invariant in
    sifting_each _ _ _ _ _ x (λ r. 9 * r + 9 ≤ length c.args.sheet.now.entries.now) c.requires.whole.each c.loop-place.place (omega (arith, x.fewer, c.loop-place-test.true))

pub row_fits-requires-clause-low : goal.row_fits-requires-clause-low
row_fits-requires-clause-low c =
    let x = c.loop-place.invariant in
    sifting_each _ _ _ _ _ x (λ r. (p : ℕ) → p < length c.args.sheet.now.scope.slots.now → option_at c.args.sheet.now.entries.now r p < 32) (λ q h p k. c.requires.low.each q p h k) c.loop-place.place (omega (arith, x.fewer, c.loop-place-test.true))

pub loop-place-preserved-then-row_fits : goal.loop-place-preserved-then-row_fits
loop-place-preserved-then-row_fits c =
    let x = c.loop-place.invariant in
    let here : c.loop-place.place < length c.args.run.now = omega (arith, x.fewer, c.loop-place-test.true) in
    let whole = sifting_each _ _ _ _ _ x (λ r. 9 * r + 9 ≤ length c.args.sheet.now.entries.now) c.requires.whole.each c.loop-place.place here in
    let low = sifting_each _ _ _ _ _ x (λ r. (p : ℕ) → p < length c.args.sheet.now.scope.slots.now → option_at c.args.sheet.now.entries.now r p < 32) (λ q h p k. c.requires.low.each q p h k) c.loop-place.place here in
    sifting_good _ _ _ _ _ x c.loop-place-test.true (open_suits _ _ _ _ _ c.cells_of-cells.ensures c.args.sheet.now.scope.short whole low (c.row_fits.ensures.0 c.if-row_fits.true))

pub loop-place-preserved : goal.loop-place-preserved
loop-place-preserved c =
    sifting_bad _ _ _ _ _ c.loop-place.invariant _ c.swap.ensures.len c.loop-place-test.true
    (λ g. both_ways _ c.if-row_fits.false (c.row_fits.ensures.1 (suits_open _ _ _ _ _ c.cells_of-cells.ensures g)))
    c.swap.ensures.by_index
