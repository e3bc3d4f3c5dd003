use Rattle.std.proofs.Common.{◌∙◌, rules}
use borrow.Author.Tests.{tests}
use Rattle.std.proofs.lemmas.Iterator.{YieldsList-from_slice}
use Rattle.std.proofs.lemmas.Iterator.Search.{all_from_yields_List}
use Rattle.catalogue.specs.Checks.{unused}
use Rattle.checker.proofs.Tests.{all_is}
use Rattle.checker.proofs.sheet.all_unused.Goals as goal

pub returns : goal.returns
returns c =
    all_from_yields_List unused _ _ _ c.all.ensures.ran (YieldsList-from_slice c.args.bytes.now cc) (λ x b q k. search (rules, tests)) ∙ all_is unused c.args.bytes.now
