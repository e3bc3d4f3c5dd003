use Rattle.std.proofs.Common.{◌≡◌, ℕ, ◌<◌, [], length, get_or}
use Rattle.bar.specs.Tally.{Marks, Room}
use Rattle.bar.proofs.tally.Tally.masks.Given as goal

abbrev pub invariant-loop-position : goal.invariant-loop-position
invariant-loop-position l =
    (length l.masks ≡ 8) × ((p : ℕ) → p < l.position → Marks (Room (get_or l.self.counts p []) l.sizes.each p) 32 (get_or l.masks p 0))
