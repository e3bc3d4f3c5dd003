use Rattle.std.proofs.Common.{sym, ap, ◌∙◌, rules}
use borrow.Author.Tests.{tests}
use Rattle.std.proofs.lemmas.Iterator.Consumers.{YieldsList-from_filter, YieldsList-at, nth_from_yields_List}
use Rattle.catalogue.specs.Views.{is_make, sheet_said}
use Rattle.catalogue.proofs.Walk.{goes_through, picked_nth}
use Rattle.catalogue.proofs.checked.Catalogue.sheet.Goals as goal

pub returns : goal.returns
returns c =
    let m = c.args.make in
    let w = c.sheets.ensures in
    let all = YieldsList-at c.filter-sheets.ensures.source (goes_through w.list.sheets c.sheets.result w.ahead) in
    let nth = nth_from_yields_List c.nth.result c.nth.new.self c.args.i c.nth.ensures.ran (YieldsList-from_filter _ (λ p. is_make p.0 m) all c.filter-sheets.ensures.closure (λ x b q k. search (rules, tests))) in
    picked_nth m w.list.sheets c.args.i c.nth.result c.map.result nth (search rules) ∙ ap (λ r. sheet_said r m c.args.i) (sym w.is)
