-- That load sheets of a sound catalogue are a proper binder. Assumes nothing.
use Rattle.std.specs.Prelude.{◌≡◌, ℕ, zero, suc, ◌<◌, ◌≤◌, Bool, true, false, ◌&&◌, T, ltb, List, [], ◌∷◌, length, ℤ, ◌==◌, int_le, nat_lt, slice_index, slice_index_or, refl}
use Rattle.std.proofs.Common.{sym, subst, arith}
use Rattle.std.proofs.lemmas.Bool.{lt-ltb, and_parts, eqb-true, ltb-true, cond-true}
use Rattle.catalogue.specs.declared.make.Make.{Make}
use Rattle.catalogue.specs.declared.view.View.{View}
use Rattle.catalogue.specs.Checks.{all}
use Rattle.catalogue.specs.Views.{Shown}
use Rattle.binder.specs.Meaning.{Listed, Proper}
use Rattle.sheets.specs.Tables.{Taken, shown_at}
use Rattle.sheets.specs.Rules.{is_list}
use Rattle.sheets.proofs.Scopes.{GoodScope, scope_at}
use Rattle.load.specs.Joins.{weigh}
use Rattle.load.specs.Sums.{sums}
use Rattle.load.specs.Weights.{weighs}
use Rattle.load.specs.Loads.{keeps, loading}

all_low : (l : List ℕ) → all (λ o. ltb o 32) l ≡ true → (p : ℕ) → p < length l → slice_index l p < 32
all_low [] e p h = absurd (omega arith)
all_low (o ∷ l) e zero h = ltb-true o 32 (and_parts (nat_lt o 32) (all (λ o. ltb o 32) l) e).0
all_low (o ∷ l) e (suc p) h = all_low l (and_parts (nat_lt o 32) (all (λ o. ltb o 32) l) e).1 p (omega arith)

-- what a sheet keeps is a list of its scope
keeps_listed : (v : Shown) (table : List (List ℤ)) (l : List ℕ) → keeps v table l ≡ true → Listed v.scope l
unfolding keeps
keeps_listed v table l e =
    let k = (and_parts (is_list (length v.scope) l) (int_le (weigh sums (weighs table) l) v.«cap») e).0 in
    let parts = and_parts (length l == length v.scope) (all (λ o. ltb o 32) l) k in
    let long : length l ≡ length v.scope = eqb-true (length l) (length v.scope) parts.0 in
    record { long = long; low = λ p h. all_low l parts.1 p (omega arith) }

pub is_true : (b : Bool) → T b → b ≡ true
is_true true t = refl
is_true false t = absurd t

module _ (views : List View) (n : ℕ) (tables : List (List (List ℤ))) (marks : ℕ) where
  -- the scope of a sheet that is there
  pub scope_there : (s : ℕ) → s < n → (loading views n tables marks).scope s ≡ (shown_at views s).scope
  scope_there s l = cond-true (nat_lt s n) (shown_at views s).scope [] (lt-ltb s n l)

  kept_listed : (s : ℕ) (l : List ℕ) → T ((loading views n tables marks).kept s l) → Listed ((loading views n tables marks).scope s) l
  kept_listed s l t =
      let here = keeps (shown_at views s) (slice_index_or tables s []) l in
      let parts = and_parts (nat_lt s n) here (is_true (nat_lt s n && here) t) in
      subst
      (λ (scope : List ℕ). Listed scope l)
      (sym (scope_there s (ltb-true s n parts.0)))
      (keeps_listed (shown_at views s) (slice_index_or tables s []) l parts.1)

  pub loading_proper : (m : Make) → ∥ Taken m views n ∥₁ → n ≤ length views → n ≤ 8 → marks ≤ 72 → Proper (loading views n tables marks)
  loading_proper m taken long few low =
      let good : (s : ℕ) → s < n → GoodScope ((loading views n tables marks).scope s) = λ s l. subst GoodScope (sym (scope_there s l)) (scope_at m views n taken long s l) in
      record {
        few = omega arith;
        low = low;
        some = λ s l. (good s l).some;
        short = λ s l. (good s l).short;
        apart = λ s p q l. (good s l).apart p q;
        listed = kept_listed;
        listed_then = λ i. kept_listed;
      }
