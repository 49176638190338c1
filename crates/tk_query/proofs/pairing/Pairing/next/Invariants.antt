use Rattle.std.proofs.Common.{◌-◌, length}
use Rattle.tk_query.proofs.Paired.{IsOnWay}
use Rattle.tk_query.proofs.pairing.Pairing.next.Given as goal

abbrev pub invariant-events : goal.invariant-events
invariant-events l = IsOnWay l.events l.initial.self l.self

abbrev pub decreases-events : goal.decreases-events
decreases-events l = length l.events.recorded.entries - l.self.next
