-- The law of a log from the session that it has led to. Assumes nothing.
use Rattle.std.proofs.Common.{◌≡◌, ℕ, false, List, length, Option, sym, ◌∙◌, subst, true≢false}
use Rattle.subject.specs.declared.call.Call.{Call}
use Rattle.subject.specs.Wording.{Reply}
use Rattle.subject.specs.Problem.{Problem}
use Rattle.subject.specs.Decisions.{Decision, Largest}
use Rattle.subject.specs.Logs.{Log, calls, Standing, walking}
use Rattle.subject.specs.Law.{Lawful}
use Rattle.subject.proofs.Standing.{determinate}
use Rattle.subject.proofs.Moments.{alike}
use Rattle.boxes.specs.Boxes.{opens}
use Rattle.binder.specs.declared.binders.Binder.{Ghosts}
use Rattle.binder.specs.Meaning.{Binding}
use Rattle.session.specs.Runs.{logged, Kept}
use Rattle.session.specs.Law.{Led, box_of, Law, Ran}
use Rattle.session.specs.Running.{Running}
use Rattle.session.specs.declared.state.Session.{Session}
use Rattle.session.specs.declared.state.Session.TheVariants.{Outside, Inside}

module _ {B : Type 0} {bound : Ghosts B} (meaning : B → Binding) (P : Problem) (L : Log) where
  held_lawful : (s : Session B bound) → Led meaning P L s → Lawful P L
  held_lawful (Outside p) h = h.lawful
  held_lawful (Inside w) h = h.lawful

  held_largest : (s : Session B bound) → Led meaning P L s → (D : List Decision) → walking L ≡ false → Standing P (calls L) D → Largest P D (box_of s)
  held_largest (Outside p) h D out st = subst (λ E. Largest P E (opens p.slate.cells)) (determinate P (calls L) h.decisions D h.standing st) h.stands.largest
  held_largest (Inside w) h D out st = absurd (true≢false (sym h.within ∙ out))

  pub led_law : (s : Session B bound) → Led meaning P L s → Law P L (box_of s)
  led_law s h = record {
    lawful = held_lawful s h;
    largest = held_largest s h;
    alike = λ Q E J F K D D' is there same v w sd se f q c. alike P Q E F J K D D' same (subst (Lawful P) (sym is) (held_lawful s h)) there v w sd se f q c;
  }

-- a run of all lines
pub ran : {B : Type 0} {bound : Ghosts B} (meaning : B → Binding) (P : Problem) (L : Log) (lines : List (Option Call)) (before after : List Reply) (k : ℕ) (s t : Session B bound) (m m' : List ℕ)
    → Running meaning lines k before after s t m m' → Led meaning P L s → Ran meaning P L lines after k (length m) t
ran meaning P L lines before after k s t m m' run was =
    let led = run.led P L was in
    record { led = led; law = led_law meaning P (logged (length m) lines after k L) t led; fitting = λ i lt. run.fitting P L was i lt }

pub kept : {B : Type 0} {bound : Ghosts B} (meaning : B → Binding) (lines : List (Option Call)) (before after : List Reply) (k : ℕ) (s t : Session B bound) (m m' : List ℕ)
    → Running meaning lines k before after s t m m' → Kept k before after m m'
kept meaning lines before after k s t m m' run = record { long = run.long.0; past = run.past; memory = run.memory }
