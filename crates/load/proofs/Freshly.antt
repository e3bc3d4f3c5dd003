-- A new load binder means just the load sheets of its catalogue. Assumes nothing.
use Rattle.std.proofs.Common.{◌≡◌, ℕ, ◌<◌, ◌≤◌, Bool, true, false, ◌&&◌, eqb, ltb, List, [], map, length, get_or, ℤ, sym, refl, ap, ◌∙◌, subst, ⊎_elim, arith}
use lib.Signed.{le_z}
use Rattle.std.proofs.lemmas.Bool.{cases_lt, lt-ltb, le-ltb, and_parts, and_left, cond-false}
use Rattle.catalogue.specs.declared.counts.Counts.{Counts}
use Rattle.catalogue.specs.declared.make.Make.TheVariants.{Load}
use Rattle.catalogue.specs.declared.view.View.{View}
use Rattle.catalogue.specs.Content.{Sheet}
use Rattle.catalogue.specs.Checks.{all}
use Rattle.catalogue.specs.Law.{Octets}
use Rattle.catalogue.specs.Verdict.{accepts, content}
use Rattle.catalogue.specs.Views.{Shown, showing}
use Rattle.sheets.specs.Rules.{is_list, total_from, rule, scope_at, admits_at, Fresh}
use Rattle.sheets.specs.Tables.{Taken, shown_in, shown_at, sheets_in}
use Rattle.sheets.proofs.Tabled.{at, none_at, sheets_long}
use Rattle.sheets.proofs.Chosen.{taken_of, taken_sheets}
use Rattle.load.specs.Joins.{weigh}
use Rattle.load.specs.Sums.{sums}
use Rattle.load.specs.Weights.{weighs}
use Rattle.load.specs.Given.{Tells, TellsAll}
use Rattle.load.specs.Loads.{keeps, loading}
use Rattle.load.specs.Sound.{scope_there}
use Rattle.load.proofs.Weighing.{weigh_total}
use Rattle.load.proofs.Entering.{gives_sheet}

-- both tests fail, or the second is asked
both_and : (x y z : Bool) → (x ≡ true → y ≡ z) → (x && y) ≡ (x && z)
both_and true y z f = f refl
both_and false y z f = refl

-- what is kept by a table that tells a sheet's weights is what its rule admits
keeps_rule : (t : Sheet) (table : List (List ℤ)) (l : List ℕ) → Tells table t.weights → keeps (showing t) table l ≡ rule Load t l
unfolding keeps
keeps_rule t table l tells =
    both_and (is_list (length t.scope) l) (le_z (weigh sums (weighs table) l) t.«cap») (le_z (total_from t.weights 0 l) t.«cap»)
    (λ e. ap (λ z. le_z z t.«cap») (weigh_total table t.weights l tells (and_parts (eqb (length l) (length t.scope)) (all (λ o. ltb o 32) l) e).1))

module _ (views : List View) (n : ℕ) (tables : List (List (List ℤ))) (t : Taken Load views n) (whole : n ≤ length views) (told : (s : ℕ) → s < n → TellsAll (shown_at views s).entries (get_or tables s [])) where
  scopes : (s : ℕ) → (loading views n tables 0).scope s ≡ scope_at t.sheets s
  scopes s =
      ⊎_elim
      (λ h. let a = at Load views n t s h whole in scope_there views n tables 0 s h ∙ ap (λ v. v.scope) a.shows ∙ sym a.scope)
      (λ h. cond-false (ltb s n) (shown_at views s).scope [] (le-ltb s n h) ∙ sym (none_at t.sheets s (omega (arith, sheets_long Load views n t whole))).scope)
      (cases_lt s n)

  -- a sheet that is there
  rule_there : (s : ℕ) (l : List ℕ) → s < n → keeps (shown_at views s) (get_or tables s []) l ≡ admits_at t.sheets s l
  rule_there s l h =
      let a = at Load views n t s h whole in
      let gives = gives_sheet t.options a.sheet t.sizes a.good a.make in
      let tells = subst (λ (v : Shown). TellsAll v.entries (get_or tables s [])) a.shows (told s h) a.sheet.weights gives in
      ap (λ v. keeps v (get_or tables s []) l) a.shows ∙ keeps_rule a.sheet (get_or tables s []) l tells ∙ ap (λ m. rule m a.sheet l) (sym a.make) ∙ sym (a.admits l)

  rules : (s : ℕ) (l : List ℕ) → (loading views n tables 0).kept s l ≡ admits_at t.sheets s l
  rules s l =
      ⊎_elim
      (λ h. ap (λ b. b && keeps (shown_at views s) (get_or tables s []) l) (lt-ltb s n h) ∙ rule_there s l h)
      (λ h. and_left (ltb s n) (keeps (shown_at views s) (get_or tables s []) l) (le-ltb s n h) ∙ sym ((none_at t.sheets s (omega (arith, sheets_long Load views n t whole))).admits l))
      (cases_lt s n)

  fresh_taken : Fresh t.sheets (loading views n tables 0)
  fresh_taken = record { count = sym (sheets_long Load views n t whole); scope = scopes; kept = rules; marks = refl }

pub fresh : (bs : List ℕ) (c : Counts) → accepts bs c ≡ true → Octets bs → (views : List View) (n : ℕ) (tables : List (List (List ℤ))) → shown_in views n ≡ map showing (sheets_in (content bs) Load) → n ≤ length views → ((s : ℕ) → s < n → TellsAll (shown_at views s).entries (get_or tables s [])) → Fresh (sheets_in (content bs) Load) (loading views n tables 0)
fresh bs c a o views n tables e whole told =
    subst
    (λ (ts : List Sheet). Fresh ts (loading views n tables 0))
    (taken_sheets bs c a o Load views n e)
    (fresh_taken views n tables (taken_of bs c a o Load views n e) whole told)
