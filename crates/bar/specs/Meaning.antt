-- What a bar binder means, and that it is a proper binder. Assumes nothing.
use Rattle.binder.specs.Meaning.{Binding, Proper}
use Rattle.bar.specs.declared.Bar.{Bar}
use Rattle.bar.specs.Bars.{barring}
use Rattle.bar.specs.Proper.{barring_proper}

abbrev pub meaning_of : Bar → Binding
meaning_of x = barring x.sheets.views x.sheets.count x.marks.count

pub proper_of : (x : Bar) → Proper (meaning_of x)
proper_of x = barring_proper x.sheets.make x.sheets.views x.sheets.count x.marks.count x.bars x.sheets.taken x.sheets.few x.sheets.long x.marks.few
