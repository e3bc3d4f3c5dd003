use Rattle.std.proofs.Common.{◌-◌, length}
use Rattle.catalogue.proofs.Scan.{Onward}
use Rattle.catalogue.proofs.sheet_scan.entries_end.Given as goal

abbrev pub invariant-loop-kind : goal.invariant-loop-kind
invariant-loop-kind l = Onward l.bytes l.from l.at

abbrev pub decreases-loop-kind : goal.decreases-loop-kind
decreases-loop-kind l = length l.bytes - l.at
