use Rattle.std.proofs.Common.{◌≡◌, ◌++◌, ◌*◌, ◌+◌, ◌≤◌, length}
use Rattle.tk_base.specs.declared.limits.TheConstants.{MAX_EVENTS}
use Rattle.tk_plan.specs.Trees.{IsForest, forest}
use Rattle.tk_plan.specs.Script.{moves_below}
use Rattle.tk_plan.specs.Weights.{weights}
use Rattle.tk_plan.proofs.scripts.moves.+moving.Given as goal

abbrev pub decreases-push_all : goal.decreases-push_all
decreases-push_all l = 2 * length l.nodes.now + 1

abbrev pub decreases-push_tree : goal.decreases-push_tree
decreases-push_tree l = 2 * length l.below.now + 2

abbrev pub invariant-push_all-loop-rest : goal.invariant-push_all-loop-rest
invariant-push_all-loop-rest l =
    IsForest l.rest × (length l.rest ≤ length l.nodes) × (weights (forest l.rest) ≤ MAX_EVENTS)
    × (l.initial.moves.items ++ moves_below l.parent (forest l.nodes) ≡ l.moves.items ++ moves_below l.parent (forest l.rest))

abbrev pub decreases-push_all-loop-rest : goal.decreases-push_all-loop-rest
decreases-push_all-loop-rest l = length l.rest
