use Rattle.std.proofs.Common.{◌-◌, length}
use Rattle.tk_explanations.proofs.Stuck.{IsLastSoFar}
use Rattle.tk_explanations.proofs.in_order.last_fit.Given as goal

abbrev pub invariant-fits : goal.invariant-fits
invariant-fits l = IsLastSoFar l.events l.condition l.low l.last

abbrev pub decreases-fits : goal.decreases-fits
decreases-fits l = length l.events.recorded.entries - l.low
