-- The numbers of a binder's refusals. Assumes nothing.
use Rattle.std.specs.Prelude.{◌≡◌, ℕ, Ok, Err, Result}
use Rattle.binder.specs.declared.refusal.BinderRefusal.{BinderRefusal}
use Rattle.binder.specs.declared.refusal.BinderRefusal.TheVariants.{NotThere, TooManyMarks, NoMark}

abbrev pub number_of : BinderRefusal → ℕ
number_of NotThere = 31
number_of TooManyMarks = 32
number_of NoMark = 33

-- no two refusals have one number
abbrev pub RefusalsApart : Type 0
RefusalsApart = (d e : BinderRefusal) → number_of d ≡ number_of e → d ≡ e

-- a result, with its number in the place of a refusal
abbrev pub numbered : {X : Type 0} → Result X BinderRefusal → Result X ℕ
numbered (Ok x) = Ok x
numbered (Err e) = Err (number_of e)
