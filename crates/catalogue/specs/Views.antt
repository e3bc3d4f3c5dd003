-- What is shown of a catalogue's content: its slots, and its sheets by make. Assumes nothing.
use Rattle.std.specs.Prelude.{ℕ, Bool, true, false, cond, List, [], ◌∷◌, length, ℤ, Some, None, Ok, Err, Option, Result}
use Rattle.std.specs.List.{slice_get}
use Rattle.catalogue.specs.declared.fault.Fault.{Fault}
use Rattle.catalogue.specs.declared.make.Make.{Make}
use Rattle.catalogue.specs.declared.make.Make.TheVariants.{Fit, Bar, Load}
use Rattle.catalogue.specs.declared.view.View.{View}
use Rattle.catalogue.specs.Content.{Sheet, Content}
use Rattle.catalogue.specs.Writing.{entry_bytes}

-- the sheets of one make, in the file's order
abbrev pub is_make : Make → Make → Bool
is_make Fit Fit = true
is_make Fit Bar = false
is_make Fit Load = false
is_make Bar Fit = false
is_make Bar Bar = true
is_make Bar Load = false
is_make Load Fit = false
is_make Load Bar = false
is_make Load Load = true

abbrev pub of_make : Make → List Sheet → List Sheet
of_make m [] = []
of_make m (t ∷ ts) = cond (is_make m t.make) (t ∷ of_make m ts) (of_make m ts)

-- what is shown of a sheet: its scope and its cap, and its rows or weights as they are written
pub record Shown : Type 0 where
  pub scope : List ℕ
  pub «cap» : ℤ
  pub entries : List ℕ

abbrev pub showing : Sheet → Shown
showing t = record { scope = t.scope; «cap» = t.«cap»; entries = entry_bytes t }

abbrev pub showing_of : Option Sheet → Option Shown
showing_of None = None
showing_of (Some t) = Some (showing t)

-- what a view of the program holds
abbrev pub shown_by : View → Shown
shown_by v = record { scope = v.scope.now; «cap» = v.«cap»; entries = v.entries.now }

abbrev pub seen : Option View → Option Shown
seen None = None
seen (Some v) = Some (shown_by v)

-- how many options a slot has, if the catalogue has the slot
abbrev pub options_said : Result Content Fault → ℕ → Option ℕ
options_said (Ok w) i = slice_get w.options i
options_said (Err f) i = None

-- how many sheets of a make there are
abbrev pub count_said : Result Content Fault → Make → ℕ
count_said (Ok w) m = length (of_make m w.sheets)
count_said (Err f) m = 0

-- sheet i of a make, if there is one
abbrev pub sheet_said : Result Content Fault → Make → ℕ → Option Shown
sheet_said (Ok w) m i = showing_of (slice_get (of_make m w.sheets) i)
sheet_said (Err f) m i = None
