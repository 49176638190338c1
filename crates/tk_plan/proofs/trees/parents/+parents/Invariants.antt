use Rattle.std.proofs.Common.{◌≡◌, ◌++◌, ◌≤◌, length}
use Rattle.tk_plan.specs.Parents.{parents_below}
use Rattle.tk_plan.specs.Trees.{IsForest, forest}
use Rattle.tk_plan.proofs.trees.parents.+parents.Given as goal

abbrev pub decreases-push_parents : goal.decreases-push_parents
decreases-push_parents l = length l.nodes.now

abbrev pub invariant-loop-rest : goal.invariant-loop-rest
invariant-loop-rest l =
    IsForest l.rest × (length l.rest ≤ length l.nodes)
    × (l.initial.parents.items ++ parents_below l.above (forest l.nodes) ≡ l.parents.items ++ parents_below l.above (forest l.rest))

abbrev pub decreases-loop-rest : goal.decreases-loop-rest
decreases-loop-rest l = length l.rest
