-- A number determines the refusal. Assumes nothing.
use Rattle.std.specs.Prelude.{◌==◌}
use Rattle.std.proofs.Common.{◌≡◌, ℕ, cond, Ok, Err, Result, refl}
use Rattle.std.specs.Result.{result_unwrap_or}
use Rattle.subject.proofs.Numbers.{apart_by}
use Rattle.binder.specs.declared.refusal.BinderRefusal.{BinderRefusal}
use Rattle.binder.specs.declared.refusal.BinderRefusal.TheVariants.{NotThere, TooManyMarks, NoMark}
use Rattle.binder.specs.Refusals.{number_of, numbered, RefusalsApart}

abbrev by_number : ℕ → BinderRefusal
by_number n = cond (n == 31) NotThere (cond (n == 32) TooManyMarks NoMark)

back : (e : BinderRefusal) → by_number (number_of e) ≡ e
back NotThere = refl
back TooManyMarks = refl
back NoMark = refl

pub numbers_apart : RefusalsApart
numbers_apart = apart_by number_of by_number back

-- a value in the place of a refusal is the same with numbers
pub value_or : (r : Result ℕ BinderRefusal) (d : ℕ) → result_unwrap_or r d ≡ result_unwrap_or (numbered r) d
value_or (Ok x) d = refl
value_or (Err e) d = refl
