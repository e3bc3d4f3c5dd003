-- Reading comes to an end. Assumes nothing.
use Rattle.std.proofs.Common.{◌≡◌, ℕ, ◌+◌, ◌-◌, ◌*◌, ◌<◌, ◌≤◌, Bool, true, false, cond, refl, arith}

-- either more bytes are there, or no more will come
pub reads_fall : (to n : ℕ) (was more : Bool) → was ≡ true → to + n ≤ 65536 → (more ≡ true → 0 < n) → 2 * (65536 - (to + n)) + cond more 1 0 < 2 * (65536 - to) + cond was 1 0
reads_fall to n true true e h some = let k = some refl in omega arith
reads_fall to n true false e h some = omega arith
reads_fall to n false more e h some = absurd (grind arith)
