-- The entries of load sheets give weights, and there are at most eight such sheets. Assumes nothing.
use Rattle.std.proofs.Common.{◌≡◌, ℕ, ◌+◌, ◌<◌, ◌≤◌, true, List, [], ◌∷◌, length, get_or, take, set, ℤ, sym, refl, ap, ◌∙◌, subst, arith, get_or-set_other, get_or-set_same, get_or-take, below_more}
use mathlib.Core.Logic.{∥∥₁_elim, ∥∥₁_map}
use native.Mathlib.Bridge.{le_prop}
use Rattle.std.specs.List.{AllByRecursion}
use Rattle.std.proofs.lemmas.Bool.{false≢true}
use Rattle.std.proofs.lemmas.List.{get_or_default}
use Rattle.catalogue.specs.declared.make.Make.{Make}
use Rattle.catalogue.specs.declared.make.Make.TheVariants.{Fit, Bar, Load}
use Rattle.catalogue.specs.declared.view.View.{View}
use Rattle.catalogue.specs.Content.{Sheet, GoodSheet, is_one, loads_in}
use Rattle.catalogue.specs.Checks.{is_load}
use Rattle.catalogue.specs.Views.{is_make, Shown}
use Rattle.catalogue.specs.Writing.{entry_bytes}
use Rattle.sheets.specs.Tables.{Taken, shown_at}
use Rattle.sheets.proofs.Tabled.{at, sheets_long, shown_there}
use Rattle.sheets.proofs.Entries.{rows_none, few_options, entries_weights, weight_at_lem}
use Rattle.load.specs.Given.{no_weight, Gives, Giving, TellsAll}

same_make : (m : Make) → is_make Load m ≡ true → m ≡ Load
same_make Fit e = absurd (false≢true e)
same_make Bar e = absurd (false≢true e)
same_make Load e = refl

-- the entries of a good load sheet are its weights
pub gives_sheet : (options : List ℕ) (t : Sheet) → AllByRecursion (λ k. k ≤ 32) options → GoodSheet options t → t.make ≡ Load → Gives (entry_bytes t) t.weights
gives_sheet options t sizes g m =
    let none = rows_none options t g (ap is_load m) in
    let each = weight_at_lem options t g none no_weight in
    record {
      long = entries_weights options t g none;
      position = λ i h. (each i h).position;
      option = λ i h. (each i h).option;
      amount = λ i h. (each i h).amount;
      placed = λ i h. omega (arith, (each i h).good.placed, g.few);
      known = λ i h. omega (arith, (each i h).good.known, few_options options sizes (get_or t.scope (get_or t.weights i no_weight).position 0));
    }

-- all sheets are load sheets
loads_all : (ts : List Sheet) → AllByRecursion (λ t. t.make ≡ Load) ts → loads_in ts ≡ length ts
loads_all [] a = refl
loads_all (t ∷ ts) a = omega (arith, ap is_one a.0, loads_all ts a.1)

module _ (views : List View) (n : ℕ) (t : Taken Load views n) (long : n ≤ length views) where
  few_taken : n ≤ 8
  few_taken = omega (arith, t.loads, loads_all t.sheets t.one_make, sheets_long Load views n t long)

  giving_taken : (s : ℕ) → s < n → Giving (shown_at views s).entries
  giving_taken s h =
      let a = at Load views n t s h long in
      subst
      (λ (v : Shown). Giving v.entries)
      (sym a.shows)
      (record { weights = a.sheet.weights; gives = gives_sheet t.options a.sheet t.sizes a.good a.make })

-- so of a table that says only that it is of load sheets
module _ (m : Make) (views : List View) (n : ℕ) (load : is_make Load m ≡ true) (taken : ∥ Taken m views n ∥₁) (long : n ≤ length views) where
  of_load : Taken m views n → Taken Load views n
  of_load t = subst (λ (k : Make). Taken k views n) (same_make m load) t

  pub few_loads : n ≤ 8
  few_loads = ∥∥₁_elim taken le_prop (λ t. few_taken views n (of_load t) long)

  pub giving_at : (s : ℕ) → s < n → ∥ Giving (shown_at views s).entries ∥₁
  giving_at s h = ∥∥₁_map taken (λ t. giving_taken views n (of_load t) long s h)

-- the entries of a view among the first n
pub entries_here : (views : List View) (n s : ℕ) (d : View) → s < n → n ≤ length views → (get_or (take n views) s d).entries.now ≡ (shown_at views s).entries
entries_here views n s d h le =
    let v = get_or (take n views) s d in
    let here : v ≡ get_or views s v = get_or-take n views s d h ∙ get_or_default views s d v (omega arith) in
    ap (λ x. x.entries) (shown_there views s v (omega arith) here)

-- the tables tell the weights of the first n sheets
abbrev pub AllTold : List View → List (List (List ℤ)) → ℕ → Type 0
AllTold views tables n = (s : ℕ) → s < n → TellsAll (shown_at views s).entries (get_or tables s [])

-- one table more
pub tables_more : (views : List View) (tables : List (List (List ℤ))) (s : ℕ) (table : List (List ℤ)) → s < length tables → AllTold views tables s → TellsAll (shown_at views s).entries table → AllTold views (set tables s table) (s + 1)
tables_more views tables s table h was here =
    below_more
    (λ t. TellsAll (shown_at views t).entries (get_or (set tables s table) t []))
    s
    (λ t lt. subst (TellsAll (shown_at views t).entries) (sym (get_or-set_other tables s t table [] (λ e. omega arith))) (was t lt))
    (subst (TellsAll (shown_at views s).entries) (sym (get_or-set_same tables s table [] h)) here)
