use Rattle.std.proofs.Common.{◌≤◌, length, arith}
use Rattle.fit.proofs.Newly.{taken, rows_few, runs_apart, laid_first, fresh}
use Rattle.fit.proofs.Fit.new.Goals as goal

pub row_counts-counts-requires : goal.row_counts-counts-requires
row_counts-counts-requires c =
    let k = c.args.catalogue.now in
    let s = c.sheets_of-sheets.result in
    let whole : s.count ≤ length s.views = omega (arith, s.few, s.long) in
    rows_few _ _ (taken k.bytes.now k.counts k.accepted k.octets _ _ c.sheets_of-sheets.ensures.is whole) whole

pub run_starts-starts-requires : goal.run_starts-starts-requires
run_starts-starts-requires c =
    let k = c.args.catalogue.now in
    let s = c.sheets_of-sheets.result in
    let whole : s.count ≤ length s.views = omega (arith, s.few, s.long) in
    rows_few _ _ (taken k.bytes.now k.counts k.accepted k.octets _ _ c.sheets_of-sheets.ensures.is whole) whole

pub run_places-order-requires : goal.run_places-order-requires
run_places-order-requires c =
    let k = c.args.catalogue.now in
    let s = c.sheets_of-sheets.result in
    let whole : s.count ≤ length s.views = omega (arith, s.few, s.long) in
    let t = taken k.bytes.now k.counts k.accepted k.octets _ _ c.sheets_of-sheets.ensures.is whole in
    runs_apart _ _ t whole _ _ c.run_starts-starts.ensures c.row_counts-counts.ensures s.few

pub invariant_of-result : goal.invariant_of-result
invariant_of-result c =
    let k = c.args.catalogue.now in
    let s = c.sheets_of-sheets.result in
    let whole : s.count ≤ length s.views = omega (arith, s.few, s.long) in
    let t = taken k.bytes.now k.counts k.accepted k.octets _ _ c.sheets_of-sheets.ensures.is whole in
    record { laid = ∣ laid_first _ _ t whole _ _ c.run_starts-starts.ensures c.row_counts-counts.ensures s.few _ c.run_places-order.ensures _ c.none.ensures ∣₁ }

pub returns : goal.returns
returns c =
    let k = c.args.catalogue.now in
    let s = c.sheets_of-sheets.result in
    let whole : s.count ≤ length s.views = omega (arith, s.few, s.long) in
    fresh k.bytes.now k.counts k.accepted k.octets _ _ c.sheets_of-sheets.ensures.is whole _ _ _ c.run_starts-starts.ensures c.row_counts-counts.ensures s.few c.run_places-order.ensures _ c.none.ensures
