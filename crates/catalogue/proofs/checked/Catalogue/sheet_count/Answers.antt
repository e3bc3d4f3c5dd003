use Rattle.std.proofs.Common.{sym, ap, ◌∙◌, rules}
use borrow.Author.Tests.{tests}
use Rattle.std.proofs.lemmas.Iterator.Consumers.{YieldsList-from_filter, YieldsList-at, count_from_yields_List}
use Rattle.catalogue.specs.Views.{is_make, count_said}
use Rattle.catalogue.proofs.Walk.{goes_through, picked_count}
use Rattle.catalogue.proofs.checked.Catalogue.sheet_count.Goals as goal

pub returns : goal.returns
returns c =
    let m = c.args.make in
    let w = c.sheets.ensures in
    let all = YieldsList-at c.filter.ensures.source (goes_through w.list.sheets c.sheets.result w.ahead) in
    count_from_yields_List c.filter.result c.count.result c.count.ensures.ran (YieldsList-from_filter _ (λ p. is_make p.0 m) all c.filter.ensures.closure (λ x b q k. search (rules, tests))) ∙ picked_count m w.list.sheets ∙ ap (λ r. count_said r m) (sym w.is)
