-- The rule of each make, and what a fresh binder of one make means. Assumes nothing.
use Rattle.std.specs.Prelude.{◌≡◌, ℕ, zero, suc, Bool, false, cond, not, ◌&&◌, List, [], ◌∷◌, length, ℤ, pos, ◌+ℤ◌, ◌==◌, int_le, nat_lt}
use Rattle.catalogue.specs.declared.make.Make.{Make}
use Rattle.catalogue.specs.declared.make.Make.TheVariants.{Fit, Bar, Load}
use Rattle.catalogue.specs.Content.{Weight, Sheet}
use Rattle.catalogue.specs.Checks.{all, has_list}
use Rattle.binder.specs.Meaning.{Binding}

-- l has one option, from 0 to 31, for each of k positions
abbrev pub is_list : ℕ → List ℕ → Bool
is_list k l = length l == k && all (λ o. nat_lt o 32) l

-- what option o weighs at position p; a weight that is not given is 0
abbrev pub weight_in : List Weight → ℕ → ℕ → ℤ
weight_in [] p o = pos 0
weight_in (w ∷ ws) p o = cond (w.position == p && w.option == o) w.amount (weight_in ws p o)

-- what the options of a list weigh together, from position p on
abbrev pub total_from : List Weight → ℕ → List ℕ → ℤ
total_from ws p [] = pos 0
total_from ws p (o ∷ l) = weight_in ws p o +ℤ total_from ws (suc p) l

-- The rule: a fit sheet admits its rows, a bar sheet every other list, and a load sheet the lists whose weights
-- total at most its cap.
abbrev pub rule : Make → Sheet → List ℕ → Bool
rule Fit t l = has_list l t.rows
rule Bar t l = is_list (length t.scope) l && not (has_list l t.rows)
rule Load t l = is_list (length t.scope) l && int_le (total_from t.weights 0 l) t.«cap»

abbrev pub admits : Sheet → List ℕ → Bool
admits t l = rule t.make t l

-- the scope and the rule of sheet s of a list; past its end there is none
abbrev pub scope_at : List Sheet → ℕ → List ℕ
scope_at [] s = []
scope_at (t ∷ ts) zero = t.scope
scope_at (t ∷ ts) (suc s) = scope_at ts s

abbrev pub admits_at : List Sheet → ℕ → List ℕ → Bool
admits_at [] s l = false
admits_at (t ∷ ts) zero l = admits t l
admits_at (t ∷ ts) (suc s) l = admits_at ts s l

-- a binder with just these sheets, each once with its scope and its rule, and no mark
pub record Fresh (ts : List Sheet) (m : Binding) : Type 0 where
  pub count : m.count ≡ length ts
  pub scope : (s : ℕ) → m.scope s ≡ scope_at ts s
  pub kept : (s : ℕ) (l : List ℕ) → m.kept s l ≡ admits_at ts s l
  pub marks : m.marks ≡ 0
