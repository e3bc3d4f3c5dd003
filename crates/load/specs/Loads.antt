-- What load sheets mean as a binder: each keeps every list whose weights total at most its cap. Assumes nothing.
use Rattle.std.specs.Prelude.{ℕ, Bool, cond, ◌&&◌, List, [], length, ℤ, int_le, nat_lt, slice_index_or}
use Rattle.catalogue.specs.declared.view.View.{View}
use Rattle.catalogue.specs.Views.{Shown}
use Rattle.binder.specs.Meaning.{Binding}
use Rattle.sheets.specs.Tables.{shown_at}
use Rattle.sheets.specs.Rules.{is_list}
use Rattle.load.specs.Joins.{weigh}
use Rattle.load.specs.Sums.{sums}
use Rattle.load.specs.Weights.{weighs}

-- a list has an option for each slot of the scope, and by the table it weighs at most the cap
unfoldable pub keeps : Shown → List (List ℤ) → List ℕ → Bool
keeps v table l = is_list (length v.scope) l && int_le (weigh sums (weighs table) l) v.«cap»

-- The sheets are the first n views, each with its table. What a sheet keeps never changes, so it kept the same
-- at each mark.
abbrev pub loading : List View → ℕ → List (List (List ℤ)) → ℕ → Binding
loading views n tables marks =
    record {
      count = n;
      scope = λ s. cond (nat_lt s n) (shown_at views s).scope [];
      kept = λ s l. nat_lt s n && keeps (shown_at views s) (slice_index_or tables s []) l;
      marks = marks;
      marked = λ i s l. nat_lt s n && keeps (shown_at views s) (slice_index_or tables s []) l;
    }
