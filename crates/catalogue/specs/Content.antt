-- What a catalogue says: its slots and its sheets, and when such a list is sound. Assumes nothing.
use Rattle.std.specs.Prelude.{◌≡◌, ℕ, ◌+◌, ◌<◌, ◌≤◌, List, [], ◌∷◌, length, ℤ, pos, negsuc, ◌≤ℤ◌, FitsSigned, ◌≢◌, slice_index}
use Rattle.std.specs.Int.{w32}
use Rattle.std.specs.List.{AllByRecursion}
use Rattle.catalogue.specs.declared.make.Make.{Make}
use Rattle.catalogue.specs.declared.make.Make.TheVariants.{Fit, Bar, Load}

-- what an option weighs at a position of a load sheet's scope
pub record Weight : Type 0 where
  pub position : ℕ
  pub option : ℕ
  pub amount : ℤ

-- A sheet names some slots in an order, its scope. A row has an option for each of them.
pub record Sheet : Type 0 where
  pub make : Make
  pub scope : List ℕ
  pub «cap» : ℤ  -- of a load sheet, else 0
  pub rows : List (List ℕ)  -- of a fit or bar sheet, in the file's order
  pub weights : List Weight  -- of a load sheet, in the file's order

-- Slots and sheets are numbered from 0, in the file's order.
pub record Content : Type 0 where
  pub options : List ℕ  -- of each slot, how many options it has
  pub sheets : List Sheet

-- how many rows all sheets have
abbrev pub rows_in : List Sheet → ℕ
rows_in [] = 0
rows_in (t ∷ ts) = length t.rows + rows_in ts

-- how many load sheets there are
abbrev pub is_one : Make → ℕ
is_one Fit = 0
is_one Bar = 0
is_one Load = 1

abbrev pub loads_in : List Sheet → ℕ
loads_in [] = 0
loads_in (t ∷ ts) = is_one t.make + loads_in ts

-- no element stands twice
abbrev pub Apart : {X : Type 0} → List X → Type 0
Apart [] = Unit {0}
Apart (x ∷ xs) = AllByRecursion (λ y. x ≢ y) xs × Apart xs

-- a row has an option of each slot of the scope
abbrev pub GoodRow : List ℕ → List ℕ → List ℕ → Type 0
GoodRow options [] [] = Unit {0}
GoodRow options [] (x ∷ xs) = ⊥
GoodRow options (s ∷ ss) [] = ⊥
GoodRow options (s ∷ ss) (x ∷ xs) = (x < slice_index options s) × GoodRow options ss xs

-- a weight is of an option of a slot of the scope, from -30,000 to 30,000
pub record GoodWeight (options scope : List ℕ) (w : Weight) : Type 0 where
  pub placed : w.position < length scope
  pub known : w.option < slice_index options (slice_index scope w.position)
  pub low : negsuc 29999 ≤ℤ w.amount
  pub high : w.amount ≤ℤ pos 30000

-- a weight by what it is of
abbrev pub place : Weight → List ℕ
place w = w.position ∷ w.option ∷ []

abbrev pub places : List Weight → List (List ℕ)
places [] = []
places (w ∷ ws) = place w ∷ places ws

-- what the sheets of a make have not
abbrev pub Lacks : Make → Sheet → Type 0
Lacks Fit t = (t.weights ≡ []) × (t.«cap» ≡ pos 0)
Lacks Bar t = (t.weights ≡ []) × (t.«cap» ≡ pos 0)
Lacks Load t = t.rows ≡ []

-- a sheet of a catalogue whose slots have these options
pub record GoodSheet (options : List ℕ) (t : Sheet) : Type 0 where
  pub some : 1 ≤ length t.scope
  pub few : length t.scope ≤ 8
  pub known : AllByRecursion (λ s. s < length options) t.scope
  pub apart : Apart t.scope
  pub lacks : Lacks t.make t
  pub fits : FitsSigned w32 t.«cap»
  pub rows : AllByRecursion (GoodRow options t.scope) t.rows
  pub rows_apart : Apart t.rows
  pub weights : AllByRecursion (GoodWeight options t.scope) t.weights
  pub weights_apart : Apart (places t.weights)

pub record Sound (w : Content) : Type 0 where
  pub some : 1 ≤ length w.options
  pub slots : length w.options ≤ 48
  pub sizes : AllByRecursion (λ n. (1 ≤ n) × (n ≤ 32)) w.options
  pub sheets : length w.sheets ≤ 64
  pub loads : loads_in w.sheets ≤ 8
  pub rows : rows_in w.sheets ≤ 4096
  pub good : AllByRecursion (GoodSheet w.options) w.sheets
