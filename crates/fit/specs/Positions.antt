-- Sets of positions, each a bit of a number. Assumes nothing.
use Rattle.std.specs.Prelude.{◌≡◌, ℕ, ◌<◌, ◌≤◌, Some, None, Option, ◌≢◌}
use Rattle.boxes.specs.Boxes.{Bit}

-- the positions below n
pub record FirstOnes (n bits : ℕ) : Type 0 where
  pub only : (q : ℕ) → Bit bits q → q < n
  pub all : (q : ℕ) → q < n → Bit bits q

-- `left` has the positions of a set but p
pub record LeftOut (bits p left : ℕ) : Type 0 where
  pub fewer : left ≤ bits
  pub gone : Bit left p → ⊥
  pub less : (q : ℕ) → Bit left q → Bit bits q
  pub more : (q : ℕ) → q ≢ p → Bit bits q → Bit left q

-- one of a set, and what is left of it
pub record Peeled (bits p left : ℕ) : Type 0 where
  pub here : Bit bits p
  pub rest : LeftOut bits p left

-- what a call gives of a set, and which positions are left then
abbrev pub Peels : ℕ → Option ℕ → ℕ → Type 0
Peels bits None left = (bits ≡ 0) × (left ≡ 0)
Peels bits (Some p) left = Peeled bits p left
