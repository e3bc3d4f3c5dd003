-- How bytes are read as records, and the checks by which reading one is refused. Assumes nothing.
use Rattle.std.specs.Prelude.{ℕ, ◌+◌, ◌-◌, Bool, cond, not, ◌&&◌, leb, List, [], ◌∷◌, length, take, drop, Ok, Err, Result, ◌==◌, nat_le, slice_index}
use Rattle.catalogue.specs.declared.fault.Fault.{Fault}
use Rattle.catalogue.specs.declared.fault.Layer.{Layer}
use Rattle.catalogue.specs.declared.fault.Layer.TheVariants.{Record as RecordLayer, Sheet as SheetLayer, Catalogue as CatalogueLayer}
use Rattle.catalogue.specs.declared.make.Make.{Make}
use Rattle.catalogue.specs.declared.make.Make.TheVariants.{Fit, Bar, Load}

-- a record, with the bytes of its body
pub data Rec : Type 0 where
  slot : List ℕ → Rec
  header : Make → List ℕ → Rec
  row : List ℕ → Rec
  weight : List ℕ → Rec
  end : Rec

infixl 5 ◌when◌
-- a check, by its number: the test is true where the record fails it
pub data Check : Type 0 where
  ◌when◌ : ℕ → Bool → Check

-- the layer that a check belongs to
abbrev pub layer_of : ℕ → Layer
layer_of n = cond (nat_le n 3) RecordLayer (cond (nat_le n 5) CatalogueLayer (cond (nat_le n 12) SheetLayer CatalogueLayer))

-- a fault of the record at a place: only 14 names another place, the byte behind the end
abbrev pub fault_at : ℕ → ℕ → Fault
fault_at n at = record { number = n; layer = layer_of n; place = cond (n == 14) (at + 1) at }

-- what comes where no check fails, or else the fault of the first that does
abbrev pub judged : {X : Type 0} → ℕ → List Check → Result X Fault → Result X Fault
judged at [] r = r
judged at ((n when b) ∷ cs) r = cond b (Err (fault_at n at)) (judged at cs r)

abbrev pub between : ℕ → ℕ → ℕ → Bool
between low high x = nat_le low x && nat_le x high

-- how many bytes of body each kind has
abbrev pub body_len : ℕ → ℕ
body_len k =
    cond (k == 1) 1
    (cond (k == 2) 9
    (cond (k == 3) 9
    (cond (k == 4) 13
    (cond (k == 5) 8
    (cond (k == 6) 4 0)))))

-- a body under its kind
abbrev pub named : ℕ → List ℕ → Rec
named k b =
    cond (k == 1) (slot b)
    (cond (k == 2) (header Fit b)
    (cond (k == 3) (header Bar b)
    (cond (k == 4) (header Load b)
    (cond (k == 5) (row b)
    (cond (k == 6) (weight b) end)))))

abbrev pub kind_at : List ℕ → ℕ → ℕ
kind_at bs at = slice_index bs at

-- the record whose first byte is at a place
abbrev pub record_at : List ℕ → ℕ → Rec
record_at bs at = named (kind_at bs at) (take (body_len (kind_at bs at)) (drop (at + 1) bs))

-- the checks of reading it: no record left, a kind that is none, a body cut short
abbrev pub reading : List ℕ → ℕ → List Check
reading bs at =
    (1 when leb (length bs) at) ∷
    (2 when not (between 1 7 (kind_at bs at))) ∷
    (3 when leb (length bs - at) (body_len (kind_at bs at))) ∷ []

abbrev pub read_at : List ℕ → ℕ → Result Rec Fault
read_at bs at = judged at (reading bs at) (Ok (record_at bs at))

-- how many bytes a record has
abbrev pub header_size : Make → ℕ
header_size Fit = 10
header_size Bar = 10
header_size Load = 14

abbrev pub size_of : Rec → ℕ
size_of (slot b) = 2
size_of (header m b) = header_size m
size_of (row b) = 9
size_of (weight b) = 5
size_of end = 1
