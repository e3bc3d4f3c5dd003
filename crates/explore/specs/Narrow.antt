-- Why the stack of an exploration never has more than 49 boxes. Assumes nothing.
use Rattle.std.specs.Prelude.{◌≡◌, ℕ, ◌<◌, T, List, [], map, slice_index_or}
use Rattle.subject.specs.Boxes.{Box}
use Rattle.boxes.specs.Boxes.{opens}
use Rattle.boxes.specs.declared.OptionBox.{OptionBox}

-- box i of an array of boxes
unfoldable pub box_at : List OptionBox → ℕ → Box
box_at boxes i = opens (slice_index_or (map (λ (b : OptionBox). b.cells) boxes) i [])

-- at most one option of the slot is open
abbrev pub Sole : Box → ℕ → Type 0
Sole X s = (o p : ℕ) → T (X s o) → T (X s p) → o ≡ p

-- in box i of the first boxes each slot below i has at most one open option; so box 48 has nothing to split
pub record Narrow (K : ℕ → Box) (top : ℕ) : Type 0 where
  pub sole : (i s : ℕ) → i < top → s < i → Sole (K i) s
