-- What going through the sheets of a file gives. Assumes nothing.
use Rattle.std.specs.Prelude.{◌≡◌, List, [], ◌∷◌, Some, None, Ok, Option, Result, ⊤}
use Rattle.catalogue.specs.declared.fault.Fault.{Fault}
use Rattle.catalogue.specs.declared.make.Make.{Make}
use Rattle.catalogue.specs.declared.view.View.{View}
use Rattle.catalogue.specs.declared.sheet_scan.SheetScan.{SheetScan}
use Rattle.catalogue.specs.Content.{Sheet, Content}
use Rattle.catalogue.specs.Views.{Shown, shown_by, showing}
use Rattle.catalogue.specs.Places.{Ahead}

-- a sheet as it is listed: its make, and what is shown of it
abbrev pub entry_for : Sheet → Make × Shown
entry_for t = (t.make, showing t)

abbrev pub entry_by : Make × View → Make × Shown
entry_by x = (x.0, shown_by x.1)

-- the first of the sheets that lie ahead is given, and then the others lie ahead
abbrev pub Gives : List Sheet → Option (Make × View) → SheetScan → Type 0
Gives [] None s = ⊤
Gives [] (Some x) s = ⊥
Gives (t ∷ ts) None s = ⊥
Gives (t ∷ ts) (Some x) s = (entry_by x ≡ entry_for t) × Ahead s.bytes.now s.at ts

abbrev pub NextGives : SheetScan → Option (Make × View) → SheetScan → Type 0
NextGives s r u = (ts : List Sheet) → Ahead s.bytes.now s.at ts → Gives ts r u

-- some sheets lie ahead, and then the end
pub record Stands (s : SheetScan) : Type 0 where
  pub sheets : List Sheet
  pub ahead : Ahead s.bytes.now s.at sheets

-- the sheets that a file's content lists lie ahead
pub record Lists (r : Result Content Fault) (s : SheetScan) : Type 0 where
  pub list : Content
  pub is : r ≡ Ok list
  pub ahead : Ahead s.bytes.now s.at list.sheets
