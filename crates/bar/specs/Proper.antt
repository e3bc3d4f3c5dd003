-- What holds of the bar sheets of a sound catalogue, and that they are a proper binder. Assumes nothing.
use Rattle.std.specs.Prelude.{◌≡◌, ℕ, zero, suc, ◌*◌, ◌/◌, ◌<◌, ◌≤◌, Bool, true, false, ◌&&◌, T, ltb, List, [], ◌∷◌, map, length, ◌==◌, ◌≢◌, nat_lt, slice_index, slice_index_or, refl}
use Rattle.std.proofs.Common.{sym, ap, subst, ◌∙◌, arith}
use Rattle.std.proofs.Math.Logic.{∥∥₁_elim}
use mathlib.Core.HLevel.{⊥_prop}
use Rattle.std.proofs.Math.Bridge.{le_prop}
use Rattle.std.specs.List.{AllByRecursion}
use Rattle.std.proofs.ByRecursion.{All-get_or}
use Rattle.std.proofs.lemmas.Bool.{lt-ltb, and_parts, eqb-true, ltb-true, cond-true, false≢true}
use Rattle.catalogue.specs.declared.make.Make.{Make}
use Rattle.catalogue.specs.declared.make.Make.TheVariants.{Fit, Bar, Load}
use Rattle.catalogue.specs.declared.view.View.{View}
use Rattle.catalogue.specs.Content.{Sheet, Apart, GoodSheet, rows_in}
use Rattle.catalogue.specs.Checks.{all, is_load}
use Rattle.catalogue.specs.Views.{is_make, Shown, showing, shown_by}
use Rattle.catalogue.specs.Writing.{entry_bytes}
use Rattle.binder.specs.Meaning.{Listed, Proper}
use Rattle.sheets.specs.Tables.{Taken, shown_in, shown_at}
use Rattle.sheets.specs.Rules.{is_list}
use Rattle.sheets.proofs.Tabled.{at}
use Rattle.sheets.proofs.Scopes.{GoodScope, scope_at}
use Rattle.sheets.proofs.Entries.{entries_rows, row_at_lem}
use Rattle.bar.specs.Tally.{RowsApart}
use Rattle.bar.specs.Bars.{keeps, barring}

-- what holds of a bar sheet of a sound catalogue, as it is shown
pub record GoodBar (v : Shown) : Type 0 where
  pub scope : GoodScope v.scope
  pub few : length v.entries / 9 ≤ 4096
  pub rows : RowsApart v.entries (length v.scope) (length v.entries / 9)

-- what stands at two places of a list without doubles
apart_at : {X : Type 0} (d : X) (xs : List X) → Apart xs → (i j : ℕ) → i < j → j < length xs → slice_index_or xs i d ≢ slice_index_or xs j d
apart_at d [] a i j l h e = absurd (omega arith)
apart_at d (x ∷ xs) a zero zero l h e = absurd (omega arith)
apart_at d (x ∷ xs) a (suc i) zero l h e = absurd (omega arith)
apart_at d (x ∷ xs) a zero (suc j) l h e = All-get_or (λ y. x ≢ y) xs j d (omega arith) a.0 e
apart_at d (x ∷ xs) a (suc i) (suc j) l h e = apart_at d xs a.1 i j (omega arith) (omega arith) e

-- the rows of a good bar sheet, as it is shown, are few and all different
record GoodRows (v : Shown) : Type 0 where
  few : length v.entries / 9 ≤ 4096
  apart : RowsApart v.entries (length v.scope) (length v.entries / 9)

good_rows : (options : List ℕ) (t : Sheet) → GoodSheet options t → t.make ≡ Bar → length t.rows ≤ 4096 → GoodRows (showing t)
good_rows options t g m few =
    let long : length (entry_bytes t) ≡ 9 * length t.rows = entries_rows options t g (ap is_load m) in
    let total : length (entry_bytes t) / 9 ≡ length t.rows = omega arith in
    record {
      few = omega arith;
      apart = λ u v l h e. apart_at [] t.rows g.rows_apart u v l (omega arith)
          (sym (row_at_lem options t g u (omega arith)) ∙ e ∙ row_at_lem options t g v (omega arith));
    }

-- no sheet has more rows than all of them
few_rows : (options : List ℕ) (ts : List Sheet) (views : List View) (n s : ℕ) → AllByRecursion (GoodSheet options) ts → AllByRecursion (λ t. t.make ≡ Bar) ts
    → map showing ts ≡ shown_in views n → s < n → n ≤ length views → length (shown_at views s).entries ≤ 9 * rows_in ts
few_rows options ts [] n s good bars e l h = absurd (omega arith)
few_rows options ts (v ∷ vs) zero s good bars e l h = absurd (omega arith)
few_rows options [] (v ∷ vs) (suc n) s good bars e l h = absurd (let z : ◌≡◌ {A = ℕ} 0 (suc (length (shown_in vs n))) = ap length e in omega arith)
few_rows options (t ∷ ts) (v ∷ vs) (suc n) zero good bars e l h =
    let first : shown_by v ≡ showing t = cc in
    omega (arith, ap (λ k. length k.entries) first, entries_rows options t good.0 (ap is_load bars.0))
few_rows options (t ∷ ts) (v ∷ vs) (suc n) (suc s) good bars e l h =
    let rest : map showing ts ≡ shown_in vs n = cc in
    omega (arith, few_rows options ts vs n s good.1 bars.1 rest (omega arith) (omega arith))

taken_rows : (views : List View) (n : ℕ) (t : Taken Bar views n) (s : ℕ) → s < n → n ≤ length views → GoodRows (shown_at views s)
taken_rows views n t s l h =
    let a = at Bar views n t s l h in
    let some : length (entry_bytes a.sheet) ≡ length (shown_at views s).entries = ap (λ k. length k.entries) (sym a.shows) in
    let few : length a.sheet.rows ≤ 4096 = omega (arith, t.rows, few_rows t.options t.sheets views n s t.good t.one_make t.is l h, entries_rows t.options a.sheet a.good (ap is_load a.make)) in
    subst GoodRows (sym a.shows) (good_rows t.options a.sheet a.good a.make few)

same_make : (m : Make) → is_make Bar m ≡ true → m ≡ Bar
same_make Fit e = absurd (false≢true e)
same_make Bar e = refl
same_make Load e = absurd (false≢true e)

-- the views of a table of bar sheets are good, though it does not say by what catalogue
module _ (m : Make) (views : List View) (n : ℕ) (bars : is_make Bar m ≡ true) (taken : ∥ Taken m views n ∥₁) (few : n ≤ 64) (long : length views ≡ 64) where
  sure : {P : Type 0} → IsProp P → (s : ℕ) → s < n → (GoodRows (shown_at views s) → P) → P
  sure prop s l f = ∥∥₁_elim taken prop (λ t. f (taken_rows views n (subst (λ (k : Make). Taken k views n) (same_make m bars) t) s l (omega arith)))

  pub good_at : (s : ℕ) → s < n → GoodBar (shown_at views s)
  good_at s l = record {
    scope = scope_at m views n taken (omega arith) s l;
    few = sure le_prop s l (λ k. k.few);
    rows = λ u v h j e. sure ⊥_prop s l (λ k. k.apart u v h j e);
  }

-- the scope of a sheet that is there
pub scope_there : (views : List View) (n marks s : ℕ) → s < n → (barring views n marks).scope s ≡ (shown_at views s).scope
scope_there views n marks s l = cond-true (nat_lt s n) (shown_at views s).scope [] (lt-ltb s n l)

all_low : (l : List ℕ) → all (λ o. ltb o 32) l ≡ true → (p : ℕ) → p < length l → slice_index l p < 32
all_low [] e p h = absurd (omega arith)
all_low (o ∷ l) e zero h = ltb-true o 32 (and_parts (nat_lt o 32) (all (λ o. ltb o 32) l) e).0
all_low (o ∷ l) e (suc p) h = all_low l (and_parts (nat_lt o 32) (all (λ o. ltb o 32) l) e).1 p (omega arith)

-- what a sheet keeps is a list of its scope
keeps_listed : (v : Shown) (l : List ℕ) → keeps v l ≡ true → Listed v.scope l
unfolding keeps
keeps_listed v l e =
    let k = (and_parts (is_list (length v.scope) l) _ e).0 in
    let parts = and_parts (length l == length v.scope) (all (λ o. ltb o 32) l) k in
    let long : length l ≡ length v.scope = eqb-true (length l) (length v.scope) parts.0 in
    record { long = long; low = λ p h. all_low l parts.1 p (omega arith) }

pub is_true : (b : Bool) → T b → b ≡ true
is_true true t = refl
is_true false t = absurd t

kept_listed : (views : List View) (n marks s : ℕ) (l : List ℕ) → T ((barring views n marks).kept s l) → Listed ((barring views n marks).scope s) l
kept_listed views n marks s l t =
    let parts = and_parts (nat_lt s n) (keeps (shown_at views s) l) (is_true (nat_lt s n && keeps (shown_at views s) l) t) in
    subst (λ (scope : List ℕ). Listed scope l) (sym (scope_there views n marks s (ltb-true s n parts.0))) (keeps_listed (shown_at views s) l parts.1)

-- what holds of the scope of each view holds of each scope
scopes : (P : List ℕ → Type 0) (views : List View) (n marks : ℕ) → ((s : ℕ) → s < n → P (shown_at views s).scope) → (s : ℕ) → s < n → P ((barring views n marks).scope s)
scopes P views n marks f s l = subst P (sym (scope_there views n marks s l)) (f s l)

pub barring_proper : (m : Make) (views : List View) (n marks : ℕ) → is_make Bar m ≡ true → ∥ Taken m views n ∥₁ → n ≤ 64 → length views ≡ 64 → marks ≤ 72 → Proper (barring views n marks)
barring_proper m views n marks bars taken few long low =
    let good : (s : ℕ) → s < n → GoodBar (shown_at views s) = good_at m views n bars taken few long in
    record {
      few = omega arith;
      low = low;
      some = scopes (λ x. 1 ≤ length x) views n marks (λ s l. (good s l).scope.some);
      short = scopes (λ x. length x ≤ 8) views n marks (λ s l. (good s l).scope.short);
      apart = λ s p q l. scopes (λ x. p < q → q < length x → slice_index x p ≢ slice_index x q) views n marks (λ s l. (good s l).scope.apart p q) s l;
      listed = kept_listed views n marks;
      listed_then = λ i. kept_listed views n marks;
    }
