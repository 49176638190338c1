use Rattle.std.proofs.Common.{◌-◌, length}
use Rattle.tk_query_conditions.specs.CondOf.{cond_of}
use Rattle.tk_query_nearest.specs.Candidates.{listed}
use Rattle.tk_query_nearest.proofs.CandidateLemmas.{AreNearest}
use Rattle.tk_query_nearest.proofs.search.nearest.Given as goal

abbrev pub invariant-events : goal.invariant-events
invariant-events l = AreNearest l.events l.first (cond_of l.condition) l.low (listed l.candidates)

abbrev pub decreases-events : goal.decreases-events
decreases-events l = length l.events.recorded.entries - l.low
