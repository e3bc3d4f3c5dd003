-- What the running state of a check shows, and what one step of it promises. Assumes nothing.
use Rattle.std.specs.Prelude.{◌≡◌, ℕ, ◌+◌, ◌*◌, true, cond, List, length, take, is_ok, Some, None, Ok, Option, Result, nat_le}
use Rattle.catalogue.specs.declared.fault.Fault.{Fault}
use Rattle.catalogue.specs.declared.make.Make.{Make}
use Rattle.catalogue.specs.declared.make.Make.TheVariants.{Fit, Bar, Load}
use Rattle.checker.specs.declared.progress.Progress.{Progress}
use Rattle.checker.specs.declared.progress.Newest.{Newest as NewestSheet}
use Rattle.catalogue.specs.Content.{Sheet, rows_in, loads_in, places}
use Rattle.catalogue.specs.Records.{Rec, size_of, judged}
use Rattle.catalogue.specs.Checks.{Said, sheets_of, checks, after}
use Rattle.catalogue.specs.Verdict.{behind}
use Rattle.checker.specs.Model.{parts_from}

-- how many bytes a record of a sheet has, and how many of its body tell it from the others
abbrev pub step_of : Make → ℕ
step_of Fit = 9
step_of Bar = 9
step_of Load = 5

abbrev pub key_len : Make → List ℕ → ℕ
key_len Fit scope = length scope
key_len Bar scope = length scope
key_len Load scope = 2

abbrev pub keys_of : Make → Sheet → List (List ℕ)
keys_of Fit t = t.rows
keys_of Bar t = t.rows
keys_of Load t = places t.weights

-- how many load sheets there are with one sheet more, if not too many
abbrev pub loads_with : ℕ → Make → Option ℕ
loads_with n Fit = Some n
loads_with n Bar = Some n
loads_with n Load = cond (nat_le 8 n) None (Some (n + 1))

-- the newest sheet, whose records stand from its first up to a place
pub record HoldsSheet (bs : List ℕ) (at : ℕ) (n : NewestSheet) (t : Sheet) : Type 0 where
  pub make : t.make ≡ n.make
  pub scope : n.scope.now ≡ t.scope
  pub number : ℕ
  pub reaches : n.first + step_of n.make * number ≡ at
  pub parts : parts_from bs (key_len n.make t.scope) (step_of n.make) n.first number ≡ keys_of n.make t

abbrev pub HoldsNewest : List ℕ → ℕ → Option NewestSheet → Option Sheet → Type 0
HoldsNewest bs at None None = Unit {0}
HoldsNewest bs at None (Some t) = ⊥
HoldsNewest bs at (Some n) None = ⊥
HoldsNewest bs at (Some n) (Some t) = HoldsSheet bs at n t

-- the state shows what the records before a place have said
pub record Shows (bs : List ℕ) (at : ℕ) (p : Progress) (s : Said) : Type 0 where
  pub options : take p.slots p.options ≡ s.options
  pub sheets : p.sheets ≡ length (sheets_of s)
  pub loads : p.loads ≡ loads_in (sheets_of s)
  pub rows : p.rows ≡ rows_in (sheets_of s)
  pub newest : HoldsNewest bs at p.newest s.newest

-- a step answers what the record's checks say, and then shows one record more
pub record Stepped (bs : List ℕ) (at : ℕ) (x : Rec) (r : Result (Unit {0}) Fault) (q : Progress) (s : Said) : Type 0 where
  pub is : r ≡ judged at (checks (behind bs at) s x) (Ok tt)
  pub shows : is_ok r ≡ true → Shows bs (at + size_of x) q (after s x)

abbrev pub Steps : List ℕ → ℕ → Rec → Result (Unit {0}) Fault → Progress → Progress → Type 0
Steps bs at x r p q = (s : Said) → Shows bs at p s → Stepped bs at x r q s
