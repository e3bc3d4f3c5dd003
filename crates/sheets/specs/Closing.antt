-- What is left of a box when each slot of a scope keeps just the options of a mask. Assumes nothing.
use Rattle.std.specs.Prelude.{◌≡◌, ℕ, ◌<◌, min, List, length, ◌≢◌, slice_index}
use Rattle.boxes.specs.Boxes.{Open, Within, Bit}

-- as many positions as both have
abbrev pub shorter : List ℕ → List ℕ → ℕ
shorter scope masks = min (length scope) (length masks)

-- c is b with the options closed, at the slots of the first n positions, that have no bit in the mask there
pub record Narrowed (b c scope masks : List ℕ) (n : ℕ) : Type 0 where
  pub less : Within c b
  pub masked : (p o : ℕ) → p < n → Open c (slice_index scope p) o → Bit (slice_index masks p) o
  pub more : (t o : ℕ) → Open b t o → ((p : ℕ) → p < n → slice_index scope p ≡ t → Bit (slice_index masks p) o) → Open c t o
  pub rest : (t : ℕ) → ((p : ℕ) → p < n → slice_index scope p ≢ t) → slice_index c t ≡ slice_index b t
