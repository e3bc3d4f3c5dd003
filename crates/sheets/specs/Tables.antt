-- What a table of sheets holds, and how its rows are read. Assumes nothing.
use Rattle.std.specs.Prelude.{◌≡◌, ℕ, zero, suc, ◌+◌, ◌*◌, ◌≤◌, cond, List, [], ◌∷◌, map, length, take, drop, pos, Ok, Err, Result, nat_lt, slice_index}
use Rattle.std.specs.List.{AllByRecursion}
use Rattle.catalogue.specs.declared.fault.Fault.{Fault}
use Rattle.catalogue.specs.declared.make.Make.{Make}
use Rattle.catalogue.specs.declared.view.View.{View}
use Rattle.catalogue.specs.Content.{Sheet, Content, GoodSheet, rows_in, loads_in}
use Rattle.catalogue.specs.Views.{of_make, Shown, showing, shown_by}

-- what the first views show
abbrev pub shown_in : List View → ℕ → List Shown
shown_in views n = map shown_by (take n views)

-- what view s shows; past the last, nothing
abbrev pub shown_at : List View → ℕ → Shown
shown_at [] s = record { scope = []; «cap» = pos 0; entries = [] }
shown_at (v ∷ vs) zero = shown_by v
shown_at (v ∷ vs) (suc s) = shown_at vs s

-- The first n views are sheets: the scope of sheet s, how many slots that names, and the slot at one of its positions;
-- past the last sheet there is no scope. In the place of a refusal stands its number.
abbrev pub scope_in : List View → ℕ → ℕ → List ℕ
scope_in views n s = cond (nat_lt s n) (shown_at views s).scope []

abbrev pub arity_in : List View → ℕ → ℕ → Result ℕ ℕ
arity_in views n s = cond (nat_lt s n) (Ok (length (scope_in views n s))) (Err 31)

abbrev pub slot_in : List View → ℕ → ℕ → ℕ → Result ℕ ℕ
slot_in views n s p =
    cond (nat_lt s n) (cond (nat_lt p (length (scope_in views n s))) (Ok (slice_index (scope_in views n s) p)) (Err 31)) (Err 31)

-- the views show sheets of one make that some sound catalogue has
pub record Taken (m : Make) (views : List View) (n : ℕ) : Type 0 where
  pub options : List ℕ
  pub sheets : List Sheet
  pub slots : length options ≤ 48
  pub sizes : AllByRecursion (λ k. k ≤ 32) options
  pub good : AllByRecursion (GoodSheet options) sheets
  pub one_make : AllByRecursion (λ t. t.make ≡ m) sheets
  pub rows : rows_in sheets ≤ 4096
  pub loads : loads_in sheets ≤ 8
  pub is : map showing sheets ≡ shown_in views n

-- the sheets of a make that a catalogue has
abbrev pub sheets_in : Result Content Fault → Make → List Sheet
sheets_in (Ok w) m = of_make m w.sheets
sheets_in (Err f) m = []

-- row r of some entries, by its options: rows are nine bytes long, the first is the kind
abbrev pub row_at : List ℕ → ℕ → ℕ → List ℕ
row_at entries k r = take k (drop (9 * r + 1) entries)

-- the option of row r at position p
abbrev pub option_at : List ℕ → ℕ → ℕ → ℕ
option_at entries r p = slice_index entries (9 * r + 1 + p)
