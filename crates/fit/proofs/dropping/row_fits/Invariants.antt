use Rattle.fit.specs.Rows.{OpenAlong}
use Rattle.fit.proofs.dropping.row_fits.Given as goal

abbrev pub invariant-loop-position : goal.invariant-loop-position
invariant-loop-position l = OpenAlong l.cells l.sheet.entries.now l.fn.row l.position
