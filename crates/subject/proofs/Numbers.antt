-- A number determines the denial, and what has an inverse keeps things apart. Assumes nothing.
use Rattle.std.specs.Prelude.{◌==◌}
use Rattle.std.proofs.Common.{◌≡◌, ℕ, cond, refl, sym, ap, ◌∙◌}
use Rattle.subject.specs.declared.refusal.Refusal.TheVariants.{NoSlot, NoOption, NotOpen, TooManyTries, NoTry, ShortMemory}
use Rattle.subject.specs.declared.denial.Denial.{Denial}
use Rattle.subject.specs.declared.denial.Denial.TheVariants.{Refused, NotPossible}
use Rattle.subject.specs.Refusals.{denial_number, DenialsApart}

-- what can be told from its image is determined by it
pub apart_by : {X Y : Type 0} (f : X → Y) (g : Y → X) → ((x : X) → g (f x) ≡ x) → (d e : X) → f d ≡ f e → d ≡ e
apart_by f g back d e h = sym (back d) ∙ ap g h ∙ back e

abbrev by_number : ℕ → Denial
by_number n =
    cond (n == 21) (Refused NoSlot)
    (cond (n == 22) (Refused NoOption)
    (cond (n == 23) (Refused NotOpen) (cond (n == 24) (Refused TooManyTries) (cond (n == 25) (Refused NoTry) (cond (n == 26) (Refused ShortMemory) NotPossible)))))

back : (d : Denial) → by_number (denial_number d) ≡ d
back (Refused NoSlot) = refl
back (Refused NoOption) = refl
back (Refused NotOpen) = refl
back (Refused TooManyTries) = refl
back (Refused NoTry) = refl
back (Refused ShortMemory) = refl
back NotPossible = refl

pub numbers_apart : DenialsApart
numbers_apart = apart_by denial_number by_number back
