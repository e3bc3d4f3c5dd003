use Rattle.fit.specs.Laid.{row_count, Each}
use Rattle.fit.proofs.filling.row_counts.Given as goal

abbrev pub invariant-loop-sheet : goal.invariant-loop-sheet
invariant-loop-sheet l = Each (row_count l.sheets.views) l.counts l.sheet
