-- The lines of an input. Assumes nothing.
use Rattle.std.specs.Prelude.{◌≡◌, ℕ, ◌-◌, ◌<◌, ◌≤◌, cond, ◌⊎◌, List, [], ◌∷◌, ◌++◌, length, take, drop, Some, None, Option, ◌==◌, ◌≢◌, slice_index}
use Rattle.std.specs.Borrow.{Bor}
use Rattle.commands.specs.declared.lines.Lines.{Lines}

-- lines, with one byte more at the front of the first
abbrev pub longer : ℕ → List (List ℕ) → List (List ℕ)
longer b [] = (b ∷ []) ∷ []
longer b (l ∷ ls) = (b ∷ l) ∷ ls

-- byte 10 ends a line, and so does the end of the input behind other bytes
abbrev pub lines_of : List ℕ → List (List ℕ)
lines_of [] = []
lines_of (b ∷ bs) = cond (b == 10) ([] ∷ lines_of bs) (longer b (lines_of bs))

-- the bytes of which no line was taken yet
abbrev pub to_come : Lines → List ℕ
to_come l = l.rest.now

-- a line was taken off the front of bs, and cs is left, or there was none
abbrev pub Took : List ℕ → Option (Bor (List ℕ)) → List ℕ → Type 0
Took bs None cs = (lines_of bs ≡ []) × (cs ≡ bs)
Took bs (Some l) cs = (lines_of bs ≡ l.now ∷ lines_of cs) × (length cs < length bs)

-- the first n bytes are all the whole lines of bs
pub record Whole (bs : List ℕ) (n : ℕ) : Type 0 where
  pub within : n ≤ length bs
  pub ended : (n ≡ 0) ⊎ (slice_index bs (n - 1) ≡ 10)
  pub last : (k : ℕ) → n ≤ k → k < length bs → slice_index bs k ≢ 10
  pub splits : lines_of bs ≡ lines_of (take n bs) ++ lines_of (drop n bs)
