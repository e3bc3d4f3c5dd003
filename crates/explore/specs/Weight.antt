-- A number that falls with every turn of an exploration. Assumes nothing.
use Rattle.std.specs.Prelude.{ℕ, ◌^◌}
use Rattle.subject.specs.Boxes.{Box, sum, opened}

-- of each box three to the number of its open options, added up
abbrev pub weight : (ℕ → Box) → ℕ → ℕ
weight K top = sum (λ i. 3 ^ opened (K i)) top
