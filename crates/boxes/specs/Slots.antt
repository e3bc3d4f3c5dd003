-- Sets of slots as numbers: slot t is in a set where bit t of it is one. Assumes nothing.
use Rattle.std.specs.Prelude.{◌≡◌, ℕ, ◌<◌, ◌⊎◌, List, slice_index}
use Rattle.boxes.specs.Boxes.{Bit, Differ}

-- the set of every slot that a box covers, and of no other
pub record EverySlot (set : ℕ) : Type 0 where
  pub only : (t : ℕ) → Bit set t → t < 48
  pub here : (t : ℕ) → t < 48 → Bit set t

-- the set of slot s alone, if a box covers it
pub record Lone (set s : ℕ) : Type 0 where
  pub only : (t : ℕ) → Bit set t → (t ≡ s) × (t < 48)
  pub here : s < 48 → Bit set s

-- slot s was added to a set, if a box covers it
pub record Added (set new s : ℕ) : Type 0 where
  pub only : (t : ℕ) → Bit new t → Bit set t ⊎ ((t ≡ s) × (t < 48))
  pub more : (t : ℕ) → Bit set t → Bit new t
  pub here : s < 48 → Bit new s

-- no slot is in both sets
unfoldable pub Disjoint : ℕ → ℕ → Type 0
Disjoint a b = (t : ℕ) → Bit a t → Bit b t → ⊥

-- the set has the slots below n of which some option is open in one of two boxes and not in the other
pub record Changed (b c : List ℕ) (n set : ℕ) : Type 0 where
  pub other : (t : ℕ) → Bit set t → (t < n) × (d : Differ b c) × (d.slot ≡ t)
  pub same : (t : ℕ) → t < n → (Bit set t → ⊥) → slice_index c t ≡ slice_index b t
