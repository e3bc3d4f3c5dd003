use Rattle.std.proofs.Common.{◌≡◌, ◌∙◌, arith, rules, tests}
use Rattle.std.specs.List.{sum_by}
use Rattle.std.proofs.lemmas.Iterator.Adapters.{fits_from_length, at_most_from_yields_List}
use Rattle.std.proofs.lemmas.Iterator.{YieldsList-from_slice}
use Rattle.boxes.proofs.Counting.{of_cell, count_all}
use Rattle.boxes.proofs.OptionBox.count.Goals as goal

pub sum-requires-clause-fits : goal.sum-requires-clause-fits
sum-requires-clause-fits c = fits_from_length _ _ 48 _ (at_most_from_yields_List (YieldsList-from_slice c.args.self.now.cells cc) (omega arith)) c.map.ensures.closure (omega arith) (λ x r q k. search (rules, tests))

pub returns : goal.returns
returns c =
    let e : c.sum.result ≡ sum_by of_cell c.args.self.now.cells = search rules in
    e ∙ count_all c.args.self.now.cells c.args.self.now.long
