use Rattle.std.proofs.Common.{◌-◌, ◌≤◌, length}
use Rattle.checker.proofs.Judging.{Reached}
use Rattle.checker.proofs.verify.Given as goal

abbrev pub invariant-records : goal.invariant-records
invariant-records l = (l.at ≤ length l.bytes) × Reached l.bytes l.at l.progress

abbrev pub decreases-records : goal.decreases-records
decreases-records l = length l.bytes - l.at
