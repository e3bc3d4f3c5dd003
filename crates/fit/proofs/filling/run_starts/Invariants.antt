use Rattle.std.proofs.Common.{◌≡◌}
use Rattle.fit.specs.Laid.{rows_before, Each}
use Rattle.fit.proofs.filling.run_starts.Given as goal

abbrev pub invariant-loop-sheet : goal.invariant-loop-sheet
invariant-loop-sheet l = Each (rows_before l.sheets.views) l.starts l.sheet × (l.start ≡ rows_before l.sheets.views l.sheet)
