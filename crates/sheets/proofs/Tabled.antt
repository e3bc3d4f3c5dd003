-- What stands at each place of a table of sheets. Assumes nothing.
use Rattle.std.proofs.Common.{◌≡◌, ℕ, zero, suc, ◌<◌, ◌≤◌, false, List, [], ◌∷◌, map, length, get_or, take, sym, refl, ap, ◌∙◌, arith}
use Rattle.std.specs.List.{AllByRecursion}
use Rattle.std.proofs.lemmas.List.{length-map, length-take-le}
use Rattle.catalogue.specs.declared.make.Make.{Make}
use Rattle.catalogue.specs.declared.view.View.{View}
use Rattle.catalogue.specs.Content.{Sheet, GoodSheet}
use Rattle.catalogue.specs.Views.{showing, shown_by}
use Rattle.sheets.specs.Tables.{Taken, shown_in, shown_at}
use Rattle.sheets.specs.Rules.{scope_at, admits_at, admits}

-- sheet s of the list ts, which view s shows
pub record At (options : List ℕ) (m : Make) (ts : List Sheet) (views : List View) (s : ℕ) : Type 0 where
  pub sheet : Sheet
  pub make : sheet.make ≡ m
  pub good : GoodSheet options sheet
  pub shows : shown_at views s ≡ showing sheet
  pub scope : scope_at ts s ≡ sheet.scope
  pub admits : (l : List ℕ) → admits_at ts s l ≡ admits sheet l

-- what is shown at a place, where past the last stands what shows nothing
pub shown_or : (views : List View) (s : ℕ) (v : View) → shown_by v ≡ shown_at [] 0 → shown_by (get_or views s v) ≡ shown_at views s
shown_or [] s v e = e
shown_or (w ∷ vs) zero v e = refl
shown_or (w ∷ vs) (suc s) v e = shown_or vs s v e

-- what is shown at a place that is there
pub shown_there : (views : List View) (s : ℕ) (v : View) → s < length views → v ≡ get_or views s v → shown_by v ≡ shown_at views s
shown_there [] s v h e = absurd (omega arith)
shown_there (w ∷ vs) zero v h e = ap shown_by e
shown_there (w ∷ vs) (suc s) v h e = shown_there vs s v (omega arith) e

-- as many sheets as the views that show them
long_as : (ts : List Sheet) (views : List View) (n : ℕ) → map showing ts ≡ shown_in views n → n ≤ length views → length ts ≡ n
long_as ts views n e h =
    sym (length-map ts showing) ∙ ap length e ∙ length-map (take n views) shown_by ∙ length-take-le n views h

pub sheets_long : (m : Make) (views : List View) (n : ℕ) (t : Taken m views n) → n ≤ length views → length t.sheets ≡ n
sheets_long m views n t h = long_as t.sheets views n t.is h

-- a sheet's place moves with one sheet more in front
behind : (options : List ℕ) (m : Make) (t : Sheet) (ts : List Sheet) (v : View) (vs : List View) (s : ℕ) → At options m ts vs s → At options m (t ∷ ts) (v ∷ vs) (suc s)
behind options m t ts v vs s a =
    record { sheet = a.sheet; make = a.make; good = a.good; shows = a.shows; scope = a.scope; admits = a.admits }

among : (options : List ℕ) (m : Make) (ts : List Sheet) (views : List View) (n s : ℕ) → AllByRecursion (GoodSheet options) ts → AllByRecursion (λ t. t.make ≡ m) ts → map showing ts ≡ shown_in views n → s < n → n ≤ length views → At options m ts views s
among options m [] views n s good made e l h = absurd (omega (arith, long_as [] views n e h))
among options m (t ∷ ts) [] n s good made e l h = absurd (omega arith)
among options m (t ∷ ts) (v ∷ vs) zero s good made e l h = absurd (omega arith)
among options m (t ∷ ts) (v ∷ vs) (suc n) zero good made e l h =
    let first : shown_by v ≡ showing t = cc in
    record { sheet = t; make = made.0; good = good.0; shows = first; scope = refl; admits = λ k. refl }
among options m (t ∷ ts) (v ∷ vs) (suc n) (suc s) good made e l h =
    let rest : map showing ts ≡ shown_in vs n = cc in
    behind options m t ts v vs s (among options m ts vs n s good.1 made.1 rest (omega arith) (omega arith))

-- the sheet at each place
pub at : (m : Make) (views : List View) (n : ℕ) (t : Taken m views n) (s : ℕ) → s < n → n ≤ length views → At t.options m t.sheets views s
at m views n t s l h = among t.options m t.sheets views n s t.good t.one_make t.is l h

-- past the last sheet there is no scope and nothing is admitted
pub record NoneAt (ts : List Sheet) (s : ℕ) : Type 0 where
  pub scope : scope_at ts s ≡ []
  pub admits : (l : List ℕ) → admits_at ts s l ≡ false

pub none_at : (ts : List Sheet) (s : ℕ) → length ts ≤ s → NoneAt ts s
none_at [] s h = record { scope = refl; admits = λ l. refl }
none_at (t ∷ ts) zero h = absurd (omega arith)
none_at (t ∷ ts) (suc s) h =
    let n = none_at ts s (omega arith) in record { scope = n.scope; admits = n.admits }
