-- What a planner is opened on: slots with their options, and sheets with their rules. Assumes nothing.
use Rattle.std.specs.Prelude.{◌≡◌, ℕ, ◌<◌, Bool, List, length, slice_index}

-- Slots, options and sheets are numbered from 0. A sheet names some slots in an order, its scope, and its rule
-- admits some lists of options, one option for each slot of the scope.
pub record Problem : Type 0 where
  pub sizes : List ℕ  -- of each slot, how many options it has
  pub sheets : ℕ  -- how many sheets there are
  pub scope : ℕ → List ℕ
  pub admits : ℕ → List ℕ → Bool

-- there is a slot s, and it has an option o
abbrev pub Real : Problem → ℕ → ℕ → Type 0
Real P s o = (s < length P.sizes) × (o < slice_index P.sizes s)

-- sheet k names slot s, at position i of its scope
abbrev pub Names : Problem → ℕ → ℕ → ℕ → Type 0
Names P k i s = (k < P.sheets) × (i < length (P.scope k)) × (slice_index (P.scope k) i ≡ s)

-- every slot that a sheet names is there
abbrev pub Placed : Problem → Type 0
Placed P = (k i s : ℕ) → Names P k i s → s < length P.sizes

-- equal slots, and sheet by sheet equal scopes and rules
pub record Same (P Q : Problem) : Type 0 where
  pub sizes : P.sizes ≡ Q.sizes
  pub sheets : P.sheets ≡ Q.sheets
  pub scope : (k : ℕ) → k < P.sheets → P.scope k ≡ Q.scope k
  pub admits : (k : ℕ) → k < P.sheets → (l : List ℕ) → P.admits k l ≡ Q.admits k l
