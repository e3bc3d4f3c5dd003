use Rattle.std.proofs.Common.{◌≤◌, length, sym}
use Rattle.std.proofs.lemmas.List.{length-take-le}
use Rattle.checker.proofs.Tests.{filled_long}
use Rattle.checker.proofs.sheet.Frame.checked_row.Goals as goal
use Rattle.checker.proofs.sheet.Frame.checked_row.Goals.{Else-not-well_filled}

roomy : (c : Else-not-well_filled) → length c.args.self.now.scope.now ≤ length c.args.body.now
roomy c = filled_long c.args.self.now.options.now c.args.self.now.scope.now c.args.body.now (sym c.if-not-well_filled.ensures)

pub slice_bounds-result-end : goal.slice_bounds-result-end
slice_bounds-result-end c = sym (length-take-le _ _ (roomy (goal.at.slice_bounds-result-end c).Else-not-well_filled))

pub returns-clause-long : goal.returns-clause-long
returns-clause-long c = length-take-le _ _ (roomy (goal.at.returns-clause-long c).Else-not-well_filled)
