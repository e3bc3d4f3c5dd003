-- Where a byte first stands in a list of bytes. Assumes nothing.
use Rattle.std.specs.Prelude.{ℕ, suc, cond, List, [], ◌∷◌, ◌==◌}

-- how many bytes stand before the first that is b, or in all where there is none
abbrev pub ahead : ℕ → List ℕ → ℕ
ahead b [] = 0
ahead b (x ∷ xs) = cond (x == b) 0 (suc (ahead b xs))
