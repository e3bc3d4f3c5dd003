-- A plan read off a box. Assumes nothing.
use Rattle.std.specs.Prelude.{◌≡◌, ℕ, ◌<◌, List, length, slice_index}
use Rattle.boxes.specs.Boxes.{Some, Least}

-- e is the lowest open option of slot s, or 32 where none is open
pub record Entry (c : List ℕ) (s e : ℕ) : Type 0 where
  pub lowest : Some c s → Least c s e
  pub none : (Some c s → ⊥) → e ≡ 32

-- entry s of p is the lowest open option of slot s, or 32 where none is open, for the first n slots
pub record Laid (c p : List ℕ) (n : ℕ) : Type 0 where
  pub long : length p ≡ 48
  pub at : (s : ℕ) → s < n → Entry c s (slice_index p s)
