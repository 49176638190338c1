use Rattle.std.proofs.Common.{◌≡◌, ◌+◌, ◌≤◌, length}
use Rattle.tk_base.specs.declared.limits.TheConstants.{MAX_EVENTS}
use Rattle.tk_plan.specs.Trees.{IsForest, forest}
use Rattle.tk_plan.specs.Weights.{weights}
use Rattle.tk_plan.proofs.scripts.counts.count_all.Given as goal

abbrev pub invariant-loop-rest : goal.invariant-loop-rest
invariant-loop-rest l = IsForest l.rest × (l.count + weights (forest l.rest) ≡ weights (forest l.nodes)) × (l.count ≤ MAX_EVENTS)

abbrev pub decreases-loop-rest : goal.decreases-loop-rest
decreases-loop-rest l = length l.rest
