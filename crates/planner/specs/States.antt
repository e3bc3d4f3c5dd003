-- A log, and the planner that it was made of. Assumes nothing.
use Rattle.std.specs.Prelude.{◌≡◌, ℕ, zero, suc, ◌<◌, ◌≤◌, Bool, false, List, [], ◌∷◌, length, take, Ok, Err, Result, slice_index}
use Rattle.subject.specs.declared.refusal.Refusal.{Refusal}
use Rattle.subject.specs.Problem.{Problem}
use Rattle.subject.specs.Boxes.{opened}
use Rattle.subject.specs.Decisions.{Decision, tried, struck, Largest}
use Rattle.subject.specs.Logs.{Log, Entry, calls, Standing, walking}
use Rattle.subject.specs.Law.{Lawful}
use Rattle.boxes.specs.declared.OptionBox.{OptionBox}
use Rattle.boxes.specs.Boxes.{Open, opens}
use Rattle.binder.specs.declared.binders.Binder.{Ghosts}
use Rattle.binder.specs.Meaning.{Binding}
use Rattle.settle.specs.Keeping.{Has, Keeps}
use Rattle.settle.specs.Reach.{masks_of, Covers}
use Rattle.planner.specs.declared.state.Slots.{Slots}
use Rattle.planner.specs.declared.state.Planner.{Planner}

-- there is such an option, and it is open
pub record Found (w : Slots) (c : List ℕ) (s o : ℕ) : Type 0 where
  pub slot : s < w.count
  pub option : o < slice_index w.sizes s
  pub is : Open c s o

-- why an option cannot be had, by the number of the first reason that applies
pub data Shut (w : Slots) (c : List ℕ) (s o : ℕ) : ℕ → Type 0 where
  no_slot : w.count ≤ s → Shut w c s o 21
  no_option : s < w.count → slice_index w.sizes s ≤ o → Shut w c s o 22
  not_open : s < w.count → o < slice_index w.sizes s → (Open c s o → ⊥) → Shut w c s o 23

-- the answer is how many options the box opens; a refusal leaves the planner as it was
abbrev pub Counted : {B : Type 0} {bound : Ghosts B} → Result ℕ Refusal → Planner B bound → Planner B bound → Type 0
Counted (Ok n) before after = n ≡ opened (opens after.slate.cells)
Counted (Err e) before after = after ≡ before

-- the cells of box i of a table; past its end there are none
abbrev pub cells_at : List OptionBox → ℕ → List ℕ
cells_at [] i = []
cells_at (b ∷ bs) zero = b.cells
cells_at (b ∷ bs) (suc i) = cells_at bs i

-- At each try that stands the box before it is saved: it is the largest within the decisions before it, and the binder's
-- mark of that level keeps the rules as far as they matter in it.
abbrev pub Saved : Problem → List Decision → List OptionBox → (ℕ → ℕ → List ℕ → Bool) → ℕ → Type 0
Saved P [] saved marked d = d ≡ 0
Saved P (tried s o ∷ D) saved marked d =
    (e : ℕ) × (d ≡ suc e) × Largest P D (opens (cells_at saved e)) × Keeps P (opens (cells_at saved e)) (marked e) × Saved P D saved marked e
Saved P (struck s o ∷ D) saved marked d = Saved P D saved marked d

-- The planner is as the decisions say. What its binder means is given by `meaning`.
pub record Stands {B : Type 0} {bound : Ghosts B} (meaning : B → Binding) (P : Problem) (D : List Decision) (p : Planner B bound) : Type 0 where
  pub sizes : P.sizes ≡ take p.slots.count p.slots.sizes
  pub covers : Covers P.sheets P.scope (masks_of p.reach)
  pub some : 0 < length P.sizes
  pub has : Has P (meaning p.binder)
  pub largest : Largest P D (opens p.slate.cells)
  pub keeps : Keeps P (opens p.slate.cells) (meaning p.binder).kept
  pub marks : (meaning p.binder).marks ≡ p.depth
  pub saved : Saved P D p.saved (meaning p.binder).marked p.depth

-- The planner after the calls of a log, outside a walk: the log is lawful, and the planner is as the decisions say that
-- its calls come to. So its box is the largest supported box within the decisions standing.
pub record After {B : Type 0} {bound : Ghosts B} (meaning : B → Binding) (P : Problem) (L : Log) (p : Planner B bound) : Type 0 where
  pub lawful : Lawful P L
  pub outside : walking L ≡ false
  pub decisions : List Decision
  pub standing : Standing P (calls L) decisions
  pub stands : Stands meaning P decisions p

-- A call carries on what ties a planner to its log, whatever the problem and the log: where the planner is as a log says, it
-- is afterwards as that log says with the call's entry.
abbrev pub Carries : {B : Type 0} {bound : Ghosts B} → (B → Binding) → Entry → Planner B bound → Planner B bound → Type 0
Carries meaning entry before after = (P : Problem) (L : Log) → After meaning P L before → After meaning P (entry ∷ L) after
