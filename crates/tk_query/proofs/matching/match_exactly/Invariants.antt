use Rattle.std.proofs.Common.{◌-◌, length}
use Rattle.tk_query.proofs.MatchLemmas.{AreMatched}
use Rattle.tk_query.proofs.matching.match_exactly.Given as goal

abbrev pub invariant-events : goal.invariant-events
invariant-events l = AreMatched l.events l.flags l.conditions l.k l.low

abbrev pub decreases-events : goal.decreases-events
decreases-events l = length l.flags - l.low
