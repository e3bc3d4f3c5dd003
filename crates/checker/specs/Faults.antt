-- The number and the layer of each check that the program names. Assumes nothing.
use Rattle.std.specs.Prelude.{ℕ}
use Rattle.catalogue.specs.declared.fault.Fault.{Fault}
use Rattle.catalogue.specs.declared.fault.Layer.{Layer}
use Rattle.catalogue.specs.Records.{layer_of}
use Rattle.checker.specs.declared.checks.Check.{Check}
use Rattle.checker.specs.declared.checks.Check.TheVariants.{RecordLeft, KindKnown, BodyWhole, InPlace, WithinLimit, Options, ScopeLength, Scope, Row, RowOnce, Weight, WeightOnce, SomeSlot, NothingBehind}

abbrev pub number_of : Check → ℕ
number_of RecordLeft = 1
number_of KindKnown = 2
number_of BodyWhole = 3
number_of InPlace = 4
number_of WithinLimit = 5
number_of Options = 6
number_of ScopeLength = 7
number_of Scope = 8
number_of Row = 9
number_of RowOnce = 10
number_of Weight = 11
number_of WeightOnce = 12
number_of SomeSlot = 13
number_of NothingBehind = 14

abbrev pub layer_in : Check → Layer
layer_in c = layer_of (number_of c)

-- the fault that it gives of a record at a place
abbrev pub fault_of : Check → ℕ → Fault
fault_of c place = record { number = number_of c; layer = layer_in c; place = place }
