-- A round on its way. Assumes nothing.
use Rattle.std.specs.Prelude.{◌≡◌, ℕ, ◌+◌, ◌<◌, List, slice_index}
use Rattle.boxes.specs.Boxes.{Within}
use Rattle.binder.specs.Meaning.{Binding}
use Rattle.settle.specs.Reach.{Covering, Holding}
use Rattle.settle.specs.Settled.{Tight, Loses}
use Rattle.settle.specs.declared.waiting.Waiting.{Waiting}
use Rattle.settle.specs.Waiting.{Quiet}

-- In this round the sheets below k were passed, by which m became n and b became c. A sheet whose set has the slots that it names
-- holds what is open at these where it need not wait, if it did so when the round began.
pub record Passed (m n : Binding) (masks : List ℕ) (w v : Waiting) (b c : List ℕ) (k : ℕ) : Type 0 where
  pub tight : Tight m n b c
  pub within : Within c v.known.cells
  pub less : Within v.known.cells b
  pub lost : (v.fresh ≡ 0 → ⊥) → Loses b c
  pub holds : (s : ℕ) → s < m.count → Covering (m.scope s) (slice_index masks s) → (Quiet w b (slice_index masks s) s 0 → Holding m b s)
      → Quiet v c (slice_index masks s) s k → Holding n c s

-- One sheet more was passed, by which n became j and c became e.
abbrev pub PassedOn : Binding → Binding → List ℕ → Waiting → Waiting → List ℕ → List ℕ → ℕ → Type 0
PassedOn n j masks v u c e k = (m : Binding) (w : Waiting) (b : List ℕ) → Passed m n masks w v b c k → Passed m j masks w u b e (k + 1)
