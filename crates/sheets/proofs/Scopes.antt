-- What the scope of a sound sheet names: slots that are there, none twice. Assumes nothing.
use Rattle.std.proofs.Common.{◌≡◌, ℕ, zero, suc, ◌<◌, ◌≤◌, List, [], ◌∷◌, length, get_or, sym, ap, subst, arith}
use Rattle.std.proofs.ByRecursion.{All-get_or}
use Rattle.std.proofs.Math.Logic.{∥∥₁_elim}
use Rattle.std.proofs.Math.Bridge.{le_prop}
use Rattle.catalogue.specs.declared.make.Make.{Make}
use Rattle.catalogue.specs.declared.view.View.{View}
use Rattle.catalogue.specs.Content.{Sheet, Apart, GoodSheet}
use Rattle.sheets.specs.Tables.{Taken, shown_at}
use Rattle.sheets.proofs.Narrowing.{Different}
use Rattle.sheets.proofs.Tabled.{at}

apart_at : (xs : List ℕ) → Apart xs → Different xs
apart_at [] a p q l h e = omega arith
apart_at (x ∷ xs) a p zero l h e = omega arith
apart_at (x ∷ xs) a zero (suc q) l h e = All-get_or (λ y. x ≡ y → ⊥) xs q 0 (omega arith) a.0 e
apart_at (x ∷ xs) a (suc p) (suc q) l h e = apart_at xs a.1 p q (omega arith) (omega arith) e

module _ (options : List ℕ) (t : Sheet) (g : GoodSheet options t) where
  pub scope_apart : Different t.scope
  scope_apart = apart_at t.scope g.apart

  pub scope_known : (p : ℕ) → p < length t.scope → get_or t.scope p 0 < length options
  scope_known p h = All-get_or (λ s. s < length options) t.scope p 0 h g.known

  pub scope_low : length options ≤ 48 → (p : ℕ) → p < length t.scope → get_or t.scope p 0 < 48
  scope_low few p h = omega (arith, scope_known p h)

-- one to eight slots that a box covers, none of them twice
pub record GoodScope (scope : List ℕ) : Type 0 where
  pub some : 1 ≤ length scope
  pub short : length scope ≤ 8
  pub covered : (p : ℕ) → p < length scope → get_or scope p 0 < 48
  pub apart : Different scope

good_scope : (options : List ℕ) (t : Sheet) → length options ≤ 48 → GoodSheet options t → GoodScope t.scope
good_scope options t few g =
    record { some = g.some; short = g.few; covered = scope_low options t g few; apart = scope_apart options t g }

-- the scope of each sheet of a table is one
module _ (m : Make) (views : List View) (n : ℕ) (taken : ∥ Taken m views n ∥₁) (few : n ≤ length views) where
  scope_good : (s : ℕ) → s < n → Taken m views n → GoodScope (shown_at views s).scope
  scope_good s l t =
      let a = at m views n t s l few in
      subst GoodScope (sym (ap (λ v. v.scope) a.shows)) (good_scope t.options a.sheet t.slots a.good)

  pub scope_at : (s : ℕ) → s < n → GoodScope (shown_at views s).scope
  scope_at s l = record {
    some = ∥∥₁_elim taken le_prop (λ t. (scope_good s l t).some);
    short = ∥∥₁_elim taken le_prop (λ t. (scope_good s l t).short);
    covered = λ p h. ∥∥₁_elim taken le_prop (λ t. (scope_good s l t).covered p h);
    apart = λ p q h j e. ∥∥₁_elim taken (λ f g. absurd f) (λ t. (scope_good s l t).apart p q h j e);
  }
