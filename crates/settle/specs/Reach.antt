-- Which sheets name which slots, as a table. Assumes nothing.
use Rattle.std.specs.Prelude.{◌≡◌, ℕ, ◌<◌, List, length, slice_index}
use Rattle.boxes.specs.Boxes.{Open, Bit}
use Rattle.boxes.specs.Slots.{Disjoint}
use Rattle.binder.specs.Meaning.{Binding, Held}
use Rattle.settle.specs.declared.reach.Reach.{Reach}

-- The set has the slots below 48 that sheet k of a binder names, and no others. A sheet may name any number, but a box
-- covers no slot from 48 on: nothing is open there, and so nothing is lost.
pub record Named (m : Binding) (k set : ℕ) : Type 0 where
  pub only : (t : ℕ) → Bit set t → (t < 48) × (k < m.count) × (p : ℕ) × (p < length (m.scope k)) × (slice_index (m.scope k) p ≡ t)
  pub each : (p : ℕ) → k < m.count → p < length (m.scope k) → slice_index (m.scope k) p < 48 → Bit set (slice_index (m.scope k) p)

-- for each sheet the set of slots
abbrev pub masks_of : Reach → List ℕ
masks_of r = r.masks

-- the set has each slot of a scope that a box covers
abbrev pub Covering : List ℕ → ℕ → Type 0
Covering scope set = (p : ℕ) → p < length scope → slice_index scope p < 48 → Bit set (slice_index scope p)

-- the set of each of n sheets has the slots of its scope that a box covers
pub record Covers (n : ℕ) (scope : ℕ → List ℕ) (masks : List ℕ) : Type 0 where
  pub each : (k : ℕ) → k < n → Covering (scope k) (slice_index masks k)

-- sheet s holds what is open at its slots: some list that it keeps fits and has it
abbrev pub Holding : Binding → List ℕ → ℕ → Type 0
Holding m b s = (p o : ℕ) → p < length (m.scope s) → Open b (slice_index (m.scope s) p) o → Held m b s p o

-- sheet s, by its own set, names a slot of a set, or it holds what is open at its slots
abbrev pub Rests : Binding → List ℕ → List ℕ → ℕ → ℕ → Type 0
Rests m masks b set s = Disjoint (slice_index masks s) set → Holding m b s

-- so does each sheet
pub record Resting (m : Binding) (masks b : List ℕ) (set : ℕ) : Type 0 where
  pub each : (s : ℕ) → s < m.count → Rests m masks b set s
