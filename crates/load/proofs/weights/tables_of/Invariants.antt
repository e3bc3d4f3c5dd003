use Rattle.std.proofs.Common.{◌≡◌, ℕ, ◌<◌, [], length, get_or}
use Rattle.sheets.specs.Tables.{shown_at}
use Rattle.load.specs.Given.{TellsAll}
use Rattle.load.specs.Tables.{tables_in}
use Rattle.load.proofs.weights.tables_of.Given as goal

abbrev pub invariant-sheets : goal.invariant-sheets
invariant-sheets l = (length l.tables ≡ 8) × ((s : ℕ) → s < l.s → TellsAll (shown_at l.sheets.views s).entries (get_or (tables_in l.tables) s []))
