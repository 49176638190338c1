use Rattle.std.proofs.Common.{◌≤◌, length, ◌-◌}
use Rattle.tk_ids.proofs.ScanningLemmas.{IsScanned}
use Rattle.tk_ids.proofs.scanning.count_segments.Given as goal

abbrev pub invariant-bytes : goal.invariant-bytes
invariant-bytes l = (l.at ≤ length l.bytes) × IsScanned l.bytes l.at l.state l.count

abbrev pub decreases-bytes : goal.decreases-bytes
decreases-bytes l = length l.bytes - l.at
