use Rattle.std.proofs.Common.{◌≡◌, length, arith, rules}
use Rattle.sheets.specs.Opened.{shown_of}
use Rattle.bar.proofs.Showing.{good_sheet, shown}
use Rattle.bar.proofs.calls.BarBinder.show.Goals as goal

pub supports-masks-requires-clause-few : goal.supports-masks-requires-clause-few
supports-masks-requires-clause-few c = omega (arith, (good_sheet c.args.self.now c.in_ok-shown.shown c.args.sheet c.in_ok-shown.ensures).few)

pub supports-masks-requires-clause-apart : goal.supports-masks-requires-clause-apart
supports-masks-requires-clause-apart c = (good_sheet c.args.self.now c.in_ok-shown.shown c.args.sheet c.in_ok-shown.ensures).rows

pub returns-clause-shown : goal.returns-clause-shown
returns-clause-shown c =
    let x = c.args.self.now in
    let here = c.in_ok-shown.ensures in
    let eight : length c.supports-masks.result ≡ 8 = search rules in (
      here.0,
      shown x.sheets.views x.sheets.count x.marks.count c.args.sheet (shown_of c.in_ok-shown.shown) here.0 here.1 (good_sheet x c.in_ok-shown.shown c.args.sheet here)
          _ _ c.supports-masks.result eight c.supports-masks.ensures c.keep_only.ensures,
    )
