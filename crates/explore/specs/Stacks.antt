-- What a stack stands for. Assumes nothing.
use Rattle.std.specs.Prelude.{ℕ, slice_index}
use Rattle.subject.specs.Boxes.{Box}
use Rattle.explore.specs.Weight.{weight}
use Rattle.explore.specs.Narrow.{box_at}
use Rattle.explore.specs.declared.stack.Stack.{Stack}

-- how many boxes are still to be explored
abbrev pub height : Stack → ℕ
height t = t.top

-- which they are, for the numbers below the height
abbrev pub pending : Stack → ℕ → Box
pending t = box_at t.boxes

-- and of each, the slots that lost an option since its sheets held what was open
abbrev pub lost_of : Stack → ℕ → ℕ
lost_of t i = slice_index t.lost i

abbrev pub weight_of : Stack → ℕ
weight_of t = weight (pending t) (height t)
