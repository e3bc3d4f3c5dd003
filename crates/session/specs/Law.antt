-- The law of every log, for the session that it has led to. Assumes nothing.
use Rattle.std.specs.Prelude.{◌≡◌, ℕ, ◌<◌, false, List, ◌++◌, None, Err, Option, slice_index_or}
use Rattle.subject.specs.declared.call.Call.{Call}
use Rattle.subject.specs.declared.denial.Denial.TheVariants.{NotPossible}
use Rattle.subject.specs.Wording.{Reply}
use Rattle.subject.specs.Problem.{Problem, Same}
use Rattle.subject.specs.Boxes.{Box}
use Rattle.subject.specs.Decisions.{Decision, Agree, Largest}
use Rattle.subject.specs.Logs.{Log, calls, Standing, walking}
use Rattle.subject.specs.Law.{Lawful, Looking}
use Rattle.boxes.specs.Boxes.{opens}
use Rattle.binder.specs.declared.binders.Binder.{Ghosts}
use Rattle.binder.specs.Meaning.{Binding}
use Rattle.planner.specs.States.{After}
use Rattle.planner.specs.Walks.{Walking}
use Rattle.session.specs.Runs.{logged, Fitting}
use Rattle.session.specs.declared.state.Session.{Session}
use Rattle.session.specs.declared.state.Session.TheVariants.{Outside, Inside}

-- the session is where the calls of the log have led
abbrev pub Led : {B : Type 0} {bound : Ghosts B} → (B → Binding) → Problem → Log → Session B bound → Type 0
Led meaning P L (Outside p) = After meaning P L p
Led meaning P L (Inside w) = Walking meaning P L w

-- the planner's box
abbrev pub box_of : {B : Type 0} {bound : Ghosts B} → Session B bound → Box
box_of (Outside p) = opens p.slate.cells
box_of (Inside w) = opens w.planner.slate.cells

-- The law of the log L of a planner of the problem P that has the box X now.
pub record Law (P : Problem) (L : Log) (X : Box) : Type 0 where
  -- Every answer is as reckoned from slots, scopes, rules and the calls before it: whether a call is refused and by which
  -- number, what try, strike, back and look answer, and which plan next gives or that there is none left.
  pub lawful : Lawful P L
  -- Outside a walk the planner's box is the largest supported box within the decisions standing.
  pub largest : (D : List Decision) → walking L ≡ false → Standing P (calls L) D → Largest P D X
  -- From a moment E of this log outside walks, the looks, begins, nexts and ends J that follow are answered as those that
  -- follow a moment F, outside walks, of any lawful log of equal slots, scopes and rules, where the decisions standing
  -- forbid the same options.
  pub alike : (Q : Problem) (E J F K : Log) (D D' : List Decision) → J ++ E ≡ L → Lawful Q (K ++ F) → Same P Q → walking E ≡ false → walking F ≡ false
      → Standing P (calls E) D → Standing Q (calls F) D' → Agree P D D' → Looking J → calls J ≡ calls K → J ≡ K

-- The first k lines were replied to, with a plan memory of n bytes: the log that they come to has led to s and obeys the
-- law, and a line was not possible exactly where it says so.
pub record Ran {B : Type 0} {bound : Ghosts B} (meaning : B → Binding) (P : Problem) (L : Log) (lines : List (Option Call)) (replies : List Reply) (k n : ℕ) (s : Session B bound) : Type 0 where
  pub led : Led meaning P (logged n lines replies k L) s
  pub law : Law P (logged n lines replies k L) (box_of s)
  pub fitting : (i : ℕ) → i < k → Fitting (slice_index_or lines i None) (slice_index_or replies i (Err NotPossible)) (logged n lines replies i L)
