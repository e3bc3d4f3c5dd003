-- The file that a list of slots and sheets is written as. Assumes nothing.
use Rattle.std.specs.Prelude.{ℕ, ◌-◌, ◌/◌, ◌%◌, List, [], ◌∷◌, ◌++◌, length, replicate, ℤ}
use Rattle.std.proofs.Common.{of_z}
use Rattle.std.specs.Int.{w16, w32}
use Rattle.std.specs.List.{flat_map}
use Rattle.catalogue.specs.declared.make.Make.{Make}
use Rattle.catalogue.specs.declared.make.Make.TheVariants.{Fit, Bar, Load}
use Rattle.catalogue.specs.Content.{Weight, Sheet, Content}

-- eight bytes, FF for those that are not used
abbrev pub padded : List ℕ → List ℕ
padded xs = xs ++ replicate (8 - length xs) 255

-- signed numbers are two's complement, low byte first
abbrev pub two_bytes : ℤ → List ℕ
two_bytes z = of_z w16 z % 256 ∷ of_z w16 z / 256 ∷ []

abbrev pub four_bytes : ℤ → List ℕ
four_bytes z =
    of_z w32 z % 256 ∷ of_z w32 z / 256 % 256 ∷ of_z w32 z / 65536 % 256 ∷ of_z w32 z / 16777216 ∷ []

abbrev pub slot_bytes : ℕ → List ℕ
slot_bytes n = 1 ∷ n ∷ []

abbrev pub row_bytes : List ℕ → List ℕ
row_bytes r = 5 ∷ padded r

abbrev pub weight_bytes : Weight → List ℕ
weight_bytes w = 6 ∷ w.position ∷ w.option ∷ two_bytes w.amount

abbrev pub kind_of : Make → ℕ
kind_of Fit = 2
kind_of Bar = 3
kind_of Load = 4

abbrev pub cap_bytes : Make → ℤ → List ℕ
cap_bytes Fit z = []
cap_bytes Bar z = []
cap_bytes Load z = four_bytes z

-- a header's body: how many slots, the slots, and of a load sheet the cap
abbrev pub head_bytes : Sheet → List ℕ
head_bytes t = length t.scope ∷ padded t.scope ++ cap_bytes t.make t.«cap»

-- the records between a sheet's header and what follows the sheet
abbrev pub entry_bytes : Sheet → List ℕ
entry_bytes t = flat_map row_bytes t.rows ++ flat_map weight_bytes t.weights

abbrev pub sheet_bytes : Sheet → List ℕ
sheet_bytes t = (kind_of t.make ∷ head_bytes t) ++ entry_bytes t

abbrev pub written : Content → List ℕ
written w = (flat_map slot_bytes w.options ++ flat_map sheet_bytes w.sheets) ++ 7 ∷ []
