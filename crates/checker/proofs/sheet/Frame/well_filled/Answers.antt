use Rattle.std.proofs.Common.{◌≡◌, length, take, sym, ap, ◌∙◌, rules}
use borrow.Author.Tests.{tests}
use Rattle.std.proofs.lemmas.Iterator.{YieldsList-from_slice, YieldsList-from_zip}
use Rattle.std.proofs.lemmas.Iterator.Consumers.{YieldsList-at}
use Rattle.std.proofs.lemmas.Iterator.Search.{all_from_yields_List}
use Rattle.std.specs.List.{list_all, zip}
use Rattle.catalogue.specs.Checks.{all, unused}
use Rattle.checker.proofs.Tests.{fits_slot, filled_short, filled_then, filled_else}
use Rattle.checker.proofs.sheet.Frame.well_filled.Goals as goal
use Rattle.checker.proofs.sheet.Frame.well_filled.Goals.{After-all}

filled : (c : After-all) → c.all.result ≡ list_all (fits_slot c.args.self.now.options.now) (zip c.args.self.now.scope.now (take (length c.args.self.now.scope.now) c.args.row.now))
filled c =
    all_from_yields_List (fits_slot c.args.self.now.options.now) c.all.new.self _ c.all.result c.all.ensures.ran (YieldsList-from_zip {s = c.zip-pairs.result} (YieldsList-at c.zip-pairs.ensures.first (YieldsList-from_slice c.args.self.now.scope.now cc)) (YieldsList-from_slice (take (length c.args.self.now.scope.now) c.args.row.now) (search rules))) (λ x b q k. search (rules, tests))

pub returns-then-row-self : goal.returns-then-row-self
returns-then-row-self c = sym (filled_short c.args.self.now.options.now c.args.self.now.scope.now c.args.row.now c.if-row-self.true)

pub returns-then-all : goal.returns-then-all
returns-then-all c =
    filled_then c.args.self.now.options.now c.args.self.now.scope.now c.args.row.now c.if-row-self.false c.all.result (filled (goal.at.returns-then-all c).After-all) c.all_unused.result c.if-all.true (c.all_unused.ensures ∙ ap (all unused) c.split_at.ensures.back)

pub returns-else-all : goal.returns-else-all
returns-else-all c =
    filled_else c.args.self.now.options.now c.args.self.now.scope.now c.args.row.now c.if-row-self.false c.all.result (filled (goal.at.returns-else-all c).After-all) c.if-all.false
