-- One line of a session, and a run on its way. Assumes nothing.
use Rattle.std.specs.Prelude.{◌≡◌, ℕ, ◌<◌, ◌≤◌, List, length, Some, None, Ok, Err, Option, slice_index_or}
use Rattle.subject.specs.declared.call.Call.{Call}
use Rattle.subject.specs.declared.call.Call.TheVariants.{Begin, End}
use Rattle.subject.specs.declared.answer.Answer.TheVariants.{Done}
use Rattle.subject.specs.declared.denial.Denial.TheVariants.{NotPossible}
use Rattle.subject.specs.Wording.{Reply}
use Rattle.subject.specs.Problem.{Problem}
use Rattle.subject.specs.Logs.{Log}
use Rattle.binder.specs.declared.binders.Binder.{Ghosts}
use Rattle.binder.specs.Meaning.{Binding}
use Rattle.session.specs.Runs.{logged, entered, Fitting, overlaid, remembered}
use Rattle.session.specs.Law.{Led}
use Rattle.session.specs.declared.state.Session.{Session}
use Rattle.session.specs.declared.state.Session.TheVariants.{Outside, Inside}

-- the line is a begin outside walks, or an end in one
abbrev pub Crosses : {B : Type 0} {bound : Ghosts B} → Session B bound → Option Call → Type 0
Crosses (Outside p) line = line ≡ Some Begin
Crosses (Inside w) line = line ≡ Some End

-- The session s was replied to the line by r, and became t; the plan memory m became m'.
pub record Replied {B : Type 0} {bound : Ghosts B} (meaning : B → Binding) (line : Option Call) (r : Reply) (s t : Session B bound) (m m' : List ℕ) : Type 0 where
  pub memory : m' ≡ overlaid r m
  pub enters : (P : Problem) (L : Log) → Led meaning P L s → Led meaning P (entered (length m) line r L) t
  pub fits : (P : Problem) (L : Log) → Led meaning P L s → Fitting line r L

-- the begin or end was made
abbrev pub Crossed : {B : Type 0} {bound : Ghosts B} → (B → Binding) → Session B bound → Session B bound → Type 0
Crossed meaning s t = (line : Option Call) (m : List ℕ) → Crosses s line → Replied meaning line (Ok Done) s t m m

-- The first `to` lines were replied to: the replies before became after, the session s became t, and the memory m
-- became m'.
pub record Running {B : Type 0} {bound : Ghosts B} (meaning : B → Binding) (lines : List (Option Call)) (to : ℕ) (before after : List Reply) (s t : Session B bound) (m m' : List ℕ) : Type 0 where
  pub long : (length after ≡ length before) × (length m' ≡ length m)
  pub past : (i : ℕ) → to ≤ i → slice_index_or after i (Err NotPossible) ≡ slice_index_or before i (Err NotPossible)
  pub memory : m' ≡ remembered after to m
  pub led : (P : Problem) (L : Log) → Led meaning P L s → Led meaning P (logged (length m) lines after to L) t
  pub fitting : (P : Problem) (L : Log) → Led meaning P L s
      → (i : ℕ) → i < to → Fitting (slice_index_or lines i None) (slice_index_or after i (Err NotPossible)) (logged (length m) lines after i L)
