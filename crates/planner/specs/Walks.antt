-- A log, and the walk that it has led to. Assumes nothing.
use Rattle.std.specs.Prelude.{◌≡◌, ℕ, ◌<◌, ◌≤◌, true, List, [], length, take, Ok, Err, Result}
use Rattle.subject.specs.declared.refusal.Refusal.{Refusal}
use Rattle.subject.specs.Refusals.{number_of}
use Rattle.subject.specs.Problem.{Problem}
use Rattle.subject.specs.Decisions.{Decision}
use Rattle.subject.specs.Plans.{Plan}
use Rattle.subject.specs.Logs.{Log, calls, Standing, walking, given}
use Rattle.subject.specs.Law.{Lawful}
use Rattle.boxes.specs.Boxes.{opens}
use Rattle.binder.specs.declared.binders.Binder.{Ghosts}
use Rattle.binder.specs.Meaning.{Binding}
use Rattle.explore.specs.Exploring.{Exploring}
use Rattle.settle.specs.Reach.{masks_of, Covers}
use Rattle.explore.specs.Stacks.{height, pending, lost_of}
use Rattle.planner.specs.States.{Saved}
use Rattle.planner.specs.declared.state.Slots.{Slots}
use Rattle.planner.specs.declared.state.Walk.{Walk}
use Rattle.planner.specs.declared.step.State.{State}
use Rattle.planner.specs.declared.step.State.TheVariants.{Fresh, AtPlan, Spent}
use Rattle.planner.specs.declared.step.Step.{Step}

-- a fresh walk has given no plan, one at a plan has given some, and a spent one has no box left to explore
abbrev pub At : State → List Plan → ℕ → Type 0
At Fresh given top = given ≡ []
At AtPlan given top = 0 < length given
At Spent given top = top ≡ 0

-- The walk has given the plans G since it began on a planner as the decisions D say, whose binder meant `from` then.
pub record Goes {B : Type 0} {bound : Ghosts B} (meaning : B → Binding) (P : Problem) (D : List Decision) (G : List Plan) (w : Walk B bound) : Type 0 where
  pub sizes : P.sizes ≡ take w.planner.slots.count w.planner.slots.sizes
  pub covers : Covers P.sheets P.scope (masks_of w.planner.reach)
  pub from : Binding
  pub marks : from.marks ≡ w.planner.depth
  pub saved : Saved P D w.planner.saved from.marked w.planner.depth
  pub exploring : Exploring P D G (opens w.planner.slate.cells) from (pending w.stack) (lost_of w.stack) (height w.stack) (meaning w.planner.binder)
  pub at : At w.state G (height w.stack)

-- The walk after the calls of a log: the log is lawful, and the walk is as its calls and plans say.
pub record Walking {B : Type 0} {bound : Ghosts B} (meaning : B → Binding) (P : Problem) (L : Log) (w : Walk B bound) : Type 0 where
  pub lawful : Lawful P L
  pub within : walking L ≡ true
  pub decisions : List Decision
  pub standing : Standing P (calls L) decisions
  pub goes : Goes meaning P decisions (given L) w

-- the slots of the walk's planner: how many, and how many options each has
abbrev pub slots_of : {B : Type 0} {bound : Ghosts B} → Walk B bound → Slots
slots_of w = w.planner.slots

-- how many slots a plan of the walk has
abbrev pub plan_slots : {B : Type 0} {bound : Ghosts B} → Walk B bound → ℕ
plan_slots w = (slots_of w).count

-- next refuses exactly a plan memory that is shorter than the number of slots, and then leaves the walk as it was
abbrev pub Refused : {B : Type 0} {bound : Ghosts B} → Result Step Refusal → ℕ → Walk B bound → Walk B bound → Type 0
Refused (Ok x) n before after = plan_slots before ≤ n
Refused (Err e) n before after = (number_of e ≡ 26) × (n < plan_slots before) × (after ≡ before)
