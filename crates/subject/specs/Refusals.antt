-- The numbers of the refusals, and of a line that was not possible. Assumes nothing.
use Rattle.std.specs.Prelude.{◌≡◌, ℕ}
use Rattle.subject.specs.declared.refusal.Refusal.{Refusal}
use Rattle.subject.specs.declared.refusal.Refusal.TheVariants.{NoSlot, NoOption, NotOpen, TooManyTries, NoTry, ShortMemory}
use Rattle.subject.specs.declared.denial.Denial.{Denial}
use Rattle.subject.specs.declared.denial.Denial.TheVariants.{Refused, NotPossible}

abbrev pub number_of : Refusal → ℕ
number_of NoSlot = 21
number_of NoOption = 22
number_of NotOpen = 23
number_of TooManyTries = 24
number_of NoTry = 25
number_of ShortMemory = 26

abbrev pub denial_number : Denial → ℕ
denial_number (Refused e) = number_of e
denial_number NotPossible = 41

-- no two denials have one number
abbrev pub DenialsApart : Type 0
DenialsApart = (d e : Denial) → denial_number d ≡ denial_number e → d ≡ e
