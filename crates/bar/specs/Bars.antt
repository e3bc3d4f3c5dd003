-- What bar sheets mean as a binder: each keeps every list that is not among its rows. Assumes nothing.
use Rattle.std.specs.Prelude.{ℕ, zero, suc, ◌/◌, Bool, not, ◌&&◌, List, [], ◌∷◌, length, nat_lt}
use Rattle.catalogue.specs.declared.view.View.{View}
use Rattle.catalogue.specs.Checks.{has_list}
use Rattle.catalogue.specs.Views.{Shown}
use Rattle.binder.specs.Meaning.{Binding}
use Rattle.sheets.specs.Tables.{scope_in, shown_at, row_at}
use Rattle.sheets.specs.Rules.{is_list}

-- n rows of some entries, from row r on
abbrev pub rows_from : List ℕ → ℕ → ℕ → ℕ → List (List ℕ)
rows_from entries k r zero = []
rows_from entries k r (suc n) = row_at entries k r ∷ rows_from entries k (suc r) n

-- the rows of a sheet, as they are shown
abbrev pub rows_of : Shown → List (List ℕ)
rows_of v = rows_from v.entries (length v.scope) 0 (length v.entries / 9)

-- a list has an option for each slot of the scope, and is not among the rows
unfoldable pub keeps : Shown → List ℕ → Bool
keeps v l = is_list (length v.scope) l && not (has_list l (rows_of v))

-- The sheets are the first n views. What a sheet keeps never changes, so it kept the same at each mark.
abbrev pub barring : List View → ℕ → ℕ → Binding
barring views n marks = record {
  count = n;
  scope = scope_in views n;
  kept = λ s l. nat_lt s n && keeps (shown_at views s) l;
  marks = marks;
  marked = λ i s l. nat_lt s n && keeps (shown_at views s) l;
}
