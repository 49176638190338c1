use Rattle.std.proofs.Common.{length, ◌-◌}
use Rattle.tk_ids.specs.steps.Scanning.{ArePlain}
use Rattle.tk_ids.proofs.scanning.end_of_plain_bytes.Given as goal

abbrev pub invariant-plain : goal.invariant-plain
invariant-plain l = ArePlain l.bytes l.from l.end

abbrev pub decreases-plain : goal.decreases-plain
decreases-plain l = length l.bytes - l.end
