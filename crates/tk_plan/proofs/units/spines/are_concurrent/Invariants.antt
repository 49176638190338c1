use Rattle.std.proofs.Common.{◌≡◌, length}
use Rattle.tk_plan.specs.Trees.{IsForest, forest}
use Rattle.tk_plan.specs.Cutting.{all_concurrent}
use Rattle.tk_plan.proofs.units.spines.are_concurrent.Given as goal

abbrev pub invariant-loop-rest : goal.invariant-loop-rest
invariant-loop-rest l = IsForest l.rest × (all_concurrent (forest l.rest) ≡ all_concurrent (forest l.below))

abbrev pub decreases-loop-rest : goal.decreases-loop-rest
decreases-loop-rest l = length l.rest
