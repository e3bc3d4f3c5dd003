-- Which sheets wait to be shown the box, by the slots that lost an option. Assumes nothing.
use Rattle.std.specs.Prelude.{◌≡◌, ℕ, ◌<◌, ◌≤◌, ◌⊎◌, List, slice_index, slice_index_or}
use Rattle.boxes.specs.Boxes.{Open, Within, Bit}
use Rattle.boxes.specs.Slots.{Disjoint}
use Rattle.settle.specs.declared.waiting.Waiting.{Waiting}
use Rattle.settle.specs.Settled.{Loses}

-- of each slot the sheet at which it lost an option last
abbrev pub last_at : Waiting → ℕ → ℕ
last_at w t = slice_index_or w.last t 1024

-- With the sheets below k passed in this round, sheet s need not wait for any slot that its set has: it came behind the sheet at
-- which that slot lost an option last, or was that sheet.
pub record Spared (w : Waiting) (mask s k : ℕ) : Type 0 where
  pub passed : s < k → (t : ℕ) → Bit mask t → Bit w.fresh t → last_at w t ≤ s
  pub fresh : k ≤ s → Disjoint mask w.fresh
  pub late : k ≤ s → (t : ℕ) → Bit mask t → Bit w.late t → last_at w t ≤ s

-- what the cells opened at the slots of a set when these were last looked at, b opens
abbrev pub Seen : Waiting → List ℕ → ℕ → Type 0
Seen w b mask = (t o : ℕ) → Bit mask t → Open w.known.cells t o → Open b t o

-- sheet s need not wait, as far as slots were looked at, and none of its slots lost an option since
pub record Quiet (w : Waiting) (b : List ℕ) (mask s k : ℕ) : Type 0 where
  pub spared : Spared w mask s k
  pub seen : Seen w b mask

-- a round begins: every slot was looked at, and none has lost an option in the round
pub record Begun (w : Waiting) (b : List ℕ) : Type 0 where
  pub within : Within b w.known.cells
  pub seen : Within w.known.cells b
  pub fresh : w.fresh ≡ 0

-- slots of the round before were dropped that keep no sheet from k on waiting
pub record Passing (w v : Waiting) (k : ℕ) : Type 0 where
  pub known : v.known ≡ w.known
  pub fresh : v.fresh ≡ w.fresh
  pub last : v.last ≡ w.last
  pub late : (t : ℕ) → Bit w.late t → Bit v.late t ⊎ (last_at w t ≤ k)

-- The box has become c by showing it to sheet k, and some slots were looked at. A sheet that need not wait now need not before, and
-- none of its slots lost an option by that.
pub record Looked (w v : Waiting) (c : List ℕ) (k : ℕ) : Type 0 where
  pub within : Within c v.known.cells
  pub less : Within v.known.cells w.known.cells
  pub lost : (v.fresh ≡ 0 → ⊥) → (w.fresh ≡ 0 → ⊥) ⊎ Loses w.known.cells c
  pub quiet : (mask s : ℕ) → (s ≡ k → ⊥) → Quiet v c mask s k → Quiet w c mask s k

-- The sheets were passed, the box is now c, and another round begins. A sheet that need not wait now need not before.
pub record Turned (w v : Waiting) (c : List ℕ) : Type 0 where
  pub begun : Begun v c
  pub quiet : (mask s k : ℕ) → s < k → s < 1024 → Quiet v c mask s 0 → Quiet w c mask s k

-- The sheets from j to before k name, by their sets, no slot of a set; k is at most n.
pub record Next (masks : List ℕ) (j n set k : ℕ) : Type 0 where
  pub behind : j ≤ k
  pub few : k ≤ n
  pub apart : (s : ℕ) → j ≤ s → s < k → Disjoint (slice_index masks s) set
  pub names : k < n → Disjoint (slice_index masks k) set → ⊥
