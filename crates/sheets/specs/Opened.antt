-- What a sheet that was taken out of a table shows. Assumes nothing.
use Rattle.catalogue.specs.Views.{Shown}
use Rattle.sheets.specs.declared.sheet.Sheet.{Sheet}

-- what a sheet shows
abbrev pub shown_of : Sheet → Shown
shown_of t = record { scope = t.scope.slots.now; «cap» = t.«cap»; entries = t.entries.now }
