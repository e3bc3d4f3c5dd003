-- What a load binder of the program means, by its fields. Assumes nothing.
use Rattle.std.proofs.Common.{arith}
use Rattle.binder.specs.Meaning.{Binding, Proper}
use Rattle.load.specs.declared.Load.{Load}
use Rattle.load.specs.Loads.{loading}
use Rattle.load.specs.Tables.{tables_in}
use Rattle.load.specs.Sound.{loading_proper}

abbrev pub meaning_of : Load → Binding
meaning_of x = loading x.sheets.views x.sheets.count (tables_in x.weights) x.marks.count

pub proper_of : (x : Load) → Proper (meaning_of x)
proper_of x =
    loading_proper x.sheets.views x.sheets.count (tables_in x.weights) x.marks.count x.sheets.make x.sheets.taken (omega (arith, x.sheets.long, x.few)) x.few x.marks.few
