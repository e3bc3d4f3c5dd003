-- The kinds of records as the program names them. Assumes nothing.
use Rattle.std.specs.Prelude.{◌≡◌, ℕ, false, Some, None, Option, Result, MatchResult}
use Rattle.catalogue.specs.declared.kind.Kind.{Kind}
use Rattle.catalogue.specs.declared.kind.Kind.TheVariants.{Slot, Fit, Bar, Load, Row, Weight, End}
use Rattle.catalogue.specs.declared.kind.UnknownKind.{UnknownKind}
use Rattle.catalogue.specs.declared.make.Make.{Make}
use Rattle.catalogue.specs.declared.make.Make.TheVariants.{Fit as FitMake, Bar as BarMake, Load as LoadMake}
use Rattle.catalogue.specs.Records.{between}

-- the first byte of each record of a kind
abbrev pub code_of : Kind → ℕ
code_of Slot = 1
code_of Fit = 2
code_of Bar = 3
code_of Load = 4
code_of Row = 5
code_of Weight = 6
code_of End = 7

-- the kind that a first byte stands for, or that byte where it stands for none
abbrev pub IsKindOf : ℕ → Result Kind UnknownKind → Type 0
IsKindOf code r = MatchResult r (λ k. code_of k ≡ code) (λ e. (e.0 ≡ code) × (between 1 7 code ≡ false))

-- the make that a kind of header begins a sheet of
abbrev pub make_of : Kind → Option Make
make_of Slot = None
make_of Fit = Some FitMake
make_of Bar = Some BarMake
make_of Load = Some LoadMake
make_of Row = None
make_of Weight = None
make_of End = None
