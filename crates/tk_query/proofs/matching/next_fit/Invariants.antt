use Rattle.std.proofs.Common.{◌-◌, length}
use Rattle.tk_query.proofs.AskedLemmas.{HasNone}
use Rattle.tk_query.proofs.matching.next_fit.Given as goal

abbrev pub invariant-candidates : goal.invariant-candidates
invariant-candidates l = HasNone l.events l.condition l.from l.low

abbrev pub decreases-candidates : goal.decreases-candidates
decreases-candidates l = length l.candidates - l.low
