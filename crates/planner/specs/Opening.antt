-- What a planner is opened on. Assumes nothing.
use Rattle.std.specs.Prelude.{◌≡◌, ℕ, ◌<◌, ◌≤◌, List, [], length, Ok, Err, Result, slice_index}
use Rattle.catalogue.specs.declared.fault.Fault.{Fault}
use Rattle.catalogue.specs.Content.{Content}
use Rattle.catalogue.specs.Verdict.{content}
use Rattle.subject.specs.Problem.{Problem}
use Rattle.subject.specs.Boxes.{Box}
use Rattle.subject.specs.Decisions.{Largest}
use Rattle.boxes.specs.Boxes.{opens}
use Rattle.binder.specs.Meaning.{Binding, kept_first}
use Rattle.settle.specs.Keeping.{Has, Keeps, Framed}

-- of each slot of a catalogue, how many options it has
abbrev pub slots_said : Result Content Fault → List ℕ
slots_said (Ok w) = w.options
slots_said (Err f) = []

-- the same of the bytes of its file
unfoldable pub slots_in : List ℕ → List ℕ
slots_in bytes = slots_said (content bytes)

-- The problem of slots with so many options and of a binder's sheets. The rule of a sheet is what it keeps once all
-- marks are undone.
abbrev pub posed : List ℕ → Binding → Problem
posed sizes m = record { sizes = sizes; sheets = m.count; scope = m.scope; admits = kept_first m }

-- the first j slots that sheet k names are below n
pub record Below (m : Binding) (k n j : ℕ) : Type 0 where
  pub each : (i : ℕ) → k < m.count → i < length (m.scope k) → i < j → slice_index (m.scope k) i < n

-- every slot that one of the first j sheets names is below n
pub record AllBelow (m : Binding) (n j : ℕ) : Type 0 where
  pub each : (k i : ℕ) → k < j → k < m.count → i < length (m.scope k) → slice_index (m.scope k) i < n

-- The first box, of slots with these sizes and a binder m that became k: for every problem of these slots and sheets
-- whose rules are what m keeps, the largest supported box, and k keeps the rules as far as they matter in it.
pub record Started (m k : Binding) (sizes c : List ℕ) : Type 0 where
  pub framed : Framed m k
  pub largest : ((s : ℕ) → slice_index sizes s ≤ 32) → (P : Problem) → P.sizes ≡ sizes → Has P m → ((X : Box) → Keeps P X m.kept) → Largest P [] (opens c)
  pub keeps : (P : Problem) → P.sizes ≡ sizes → Has P m → ((X : Box) → Keeps P X m.kept) → Keeps P (opens c) k.kept
