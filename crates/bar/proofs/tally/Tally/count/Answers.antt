use Rattle.std.proofs.Common.{◌≡◌, ℕ, ◌+◌, ◌-◌, List, length, get_or, take, drop, ap, ◌∙◌, arith}
use Rattle.std.proofs.lemmas.Bool.{both_ways}
use Rattle.std.proofs.lemmas.List.{length_push}
use Rattle.std.specs.Slice.Iter.{chunks_exact_rest}
use Rattle.boxes.proofs.Bits.{open_low}
use Rattle.bar.proofs.Passes.{counting_none, counting_no, counting_yes}
use Rattle.bar.proofs.tally.Tally.count.Goals as goal

-- as the code cuts them, the options are the bytes behind the kind
cut_options : (scope row : List ℕ) → take (length scope + 1 - 1) (drop 1 row) ≡ take (length scope) (drop 1 row)
cut_options scope row = let e : length scope + 1 - 1 ≡ length scope = omega arith in ap (λ n. take n (drop 1 row)) e

pub loop-row-init : goal.loop-row-init
loop-row-init c =
    let sheet = c.args.sheet.now in
    let e : chunks_exact_rest c.into_iter-row-iterator.result ≡ c.args.sheet.now.entries.now = cc in
    (cc, rw e (rw c.requires.none (counting_none c.args.slate.now.cells sheet.scope.slots.now sheet.entries.now sheet.scope.short)))

pub add-requires-clause-low : goal.add-requires-clause-low
add-requires-clause-low c = λ p h.
    let scope = c.args.sheet.now.scope.slots.now in
    let fits = c.fits.ensures.0 c.if-fits.true in
    open_low c.args.slate.now.cells (get_or scope p 0) _ (fits.each p (omega (arith, fits.long)))

pub loop-row-preserved-then-fits : goal.loop-row-preserved-then-fits
loop-row-preserved-then-fits c =
    let sheet = c.args.sheet.now in
    let was = c.loop-row in
    let next = c.in-Some.ensures.steps in (
      next.0 ∙ was.invariant.0,
      rw (length_push was.yielded c.in-Some.row) (counting_yes c.args.slate.now.cells sheet.scope.slots.now sheet.entries.now sheet.scope.short
          (chunks_exact_rest was.row-iterator) c.in-Some.row.now (chunks_exact_rest c.next.new.self) _ (length was.yielded) next.1.0 (next.1.1 ∙ was.invariant.0)
          (cut_options sheet.scope.slots.now c.in-Some.row.now) was.self.counts c.add.new.self.counts (c.fits.ensures.0 c.if-fits.true) c.add.ensures was.invariant.1),
    )

pub loop-row-preserved : goal.loop-row-preserved
loop-row-preserved c =
    let sheet = c.args.sheet.now in
    let was = c.loop-row in
    let next = c.in-Some.ensures.steps in (
      next.0 ∙ was.invariant.0,
      rw (length_push was.yielded c.in-Some.row) (counting_no c.args.slate.now.cells sheet.scope.slots.now sheet.entries.now sheet.scope.short
          (chunks_exact_rest was.row-iterator) c.in-Some.row.now (chunks_exact_rest c.next.new.self) _ (length was.yielded) next.1.0 (next.1.1 ∙ was.invariant.0)
          (cut_options sheet.scope.slots.now c.in-Some.row.now) was.self.counts (λ s. both_ways _ c.if-fits.false (c.fits.ensures.1 s)) was.invariant.1),
    )
