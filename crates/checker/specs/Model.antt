-- What the values of the checking program stand for. Assumes nothing.
use Rattle.std.specs.Prelude.{◌≡◌, ℕ, zero, suc, ◌+◌, ◌≤◌, not, List, [], ◌∷◌, length, take, drop, Ok, Err, Result, slice_index}
use Rattle.std.specs.Borrow.{Bor}
use Rattle.catalogue.specs.declared.fault.Fault.{Fault}
use Rattle.catalogue.specs.declared.make.Make.{Make}
use Rattle.catalogue.specs.declared.make.Make.TheVariants.{Fit, Bar, Load}
use Rattle.checker.specs.declared.record.Record.{Record}
use Rattle.checker.specs.declared.record.Record.TheVariants.{Slot, FitHeader, BarHeader, LoadHeader, Row, Weight, End}
use Rattle.checker.specs.declared.entry.Entry.{Entry}
use Rattle.checker.specs.declared.entry.Entry.TheVariants.{Slot as SlotEntry, Header, Row as RowEntry, Weight as WeightEntry, End as EndEntry}
use Rattle.catalogue.specs.Records.{Rec, slot, header, row, weight, end, ◌when◌, judged, between}
use Rattle.catalogue.specs.Checks.{well_sized, well_scoped, scope_of, well_filled, well_weighed, weight_of}

-- what a record of the program holds
abbrev pub record_of : Record → Rec
record_of (Slot b) = slot b.now
record_of (FitHeader b) = header Fit b.now
record_of (BarHeader b) = header Bar b.now
record_of (LoadHeader b) = header Load b.now
record_of (Row b) = row b.now
record_of (Weight b) = weight b.now
record_of End = end

abbrev pub read_as : Result Record Fault → Result Rec Fault
read_as (Ok x) = Ok (record_of x)
read_as (Err f) = Err f

-- what an entry of the program holds
abbrev pub entry_of : Entry → Rec
entry_of (SlotEntry b) = slot b.now
entry_of (Header m b) = header m b.now
entry_of (RowEntry b) = row b.now
entry_of (WeightEntry b) = weight b.now
entry_of EndEntry = end

abbrev pub entered_as : Result Entry Fault → Result Rec Fault
entered_as (Ok x) = Ok (entry_of x)
entered_as (Err f) = Err f

-- n bytes of body lie within the file, behind the kind at a place
pub record Part (bs : List ℕ) (at n : ℕ) (b : List ℕ) : Type 0 where
  pub is : b ≡ take n (drop (at + 1) bs)
  pub long : length b ≡ n
  pub within : at + (n + 1) ≤ length bs

abbrev pub head_len : Make → ℕ
head_len Fit = 9
head_len Bar = 9
head_len Load = 13

abbrev pub BodyLies : List ℕ → ℕ → Rec → Type 0
BodyLies bs at (slot b) = Part bs at 1 b
BodyLies bs at (header m b) = Part bs at (head_len m) b
BodyLies bs at (row b) = Part bs at 8 b
BodyLies bs at (weight b) = Part bs at 4 b
BodyLies bs at end = at + 1 ≤ length bs

-- what the sheet layer reads of a body: check 6, checks 7 and 8, check 9, check 11
abbrev pub options_in : ℕ → List ℕ → Result ℕ Fault
options_in at b = judged at ((6 when not (between 1 32 (slice_index b 0))) ∷ []) (Ok (slice_index b 0))

abbrev pub scope_read : ℕ → ℕ → List ℕ → Result (List ℕ) Fault
scope_read at n b =
    judged at ((7 when not (well_sized b)) ∷ (8 when not (well_scoped n (scope_of b))) ∷ []) (Ok (scope_of b))

abbrev pub row_read : ℕ → List ℕ → List ℕ → List ℕ → Result (List ℕ) Fault
row_read at options scope b = judged at ((9 when not (well_filled options scope b)) ∷ []) (Ok (take (length scope) b))

abbrev pub weight_read : ℕ → List ℕ → List ℕ → List ℕ → Result (List ℕ) Fault
weight_read at options scope b =
    judged at ((11 when not (well_weighed options scope (weight_of b))) ∷ []) (Ok (take 2 b))

-- what a borrowed part holds
abbrev pub held_by : Result (Bor (List ℕ)) Fault → Result (List ℕ) Fault
held_by (Ok x) = Ok x.now
held_by (Err f) = Err f

-- the first bytes of the bodies of n records that stand from a place on
abbrev pub parts_from : List ℕ → ℕ → ℕ → ℕ → ℕ → List (List ℕ)
parts_from bs len step at zero = []
parts_from bs len step at (suc n) = take len (drop (at + 1) bs) ∷ parts_from bs len step (at + step) n
