use Rattle.catalogue.specs.Verdict.{content}
use Rattle.sheets.proofs.Chosen.{Filled}
use Rattle.sheets.proofs.taking.sheets_of.Given as goal

abbrev pub invariant-sheets : goal.invariant-sheets
invariant-sheets l = Filled (content l.catalogue.bytes.now) l.make l.views l.i l.count
