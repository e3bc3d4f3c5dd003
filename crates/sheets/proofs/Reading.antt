-- Rows read where they lie in the entries. Assumes nothing.
use Rattle.std.proofs.Common.{◌≡◌, ℕ, ◌+◌, ◌*◌, ◌<◌, ◌≤◌, List, length, get_or, drop, ◌∙◌, arith, length-drop, length-take, get_or-drop, get_or-take}
use Rattle.sheets.specs.Tables.{row_at, option_at}

pub option_in_row : (entries : List ℕ) (k r p : ℕ) → p < k → get_or (row_at entries k r) p 0 ≡ option_at entries r p
option_in_row entries k r p h = get_or-take k (drop (9 * r + 1) entries) p 0 h ∙ get_or-drop (9 * r + 1) entries p 0

pub row_length : (entries : List ℕ) (k r : ℕ) → k ≤ 8 → 9 * r + 9 ≤ length entries → length (row_at entries k r) ≡ k
row_length entries k r few h = simp (length-take, length-drop) (omega arith)
