use Rattle.std.proofs.Common.{unwrap_or, ap, ◌∙◌, arith}
use Rattle.catalogue.specs.Views.{shown_by}
use Rattle.sheets.proofs.Tabled.{shown_or}
use Rattle.sheets.proofs.table.SheetTable.view.Goals as goal

pub returns : goal.returns
returns c =
    let none = c.no_view.result in
    ap shown_by (c.unwrap_or.ensures ∙ ap (λ o. unwrap_or o none) c.copied.ensures ∙ c.get.ensures.lookup.4 (omega arith) none)
    ∙ shown_or c.args.self.now.views c.args.s none c.no_view.ensures
