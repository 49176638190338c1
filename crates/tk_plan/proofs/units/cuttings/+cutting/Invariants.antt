use Rattle.std.proofs.Common.{◌*◌, ◌+◌, length}
use Rattle.tk_plan.proofs.Cuts.{Goes}
use Rattle.tk_plan.proofs.units.cuttings.+cutting.Given as goal

abbrev pub decreases-cut_all : goal.decreases-cut_all
decreases-cut_all l = 2 * length l.nodes.now + 1

abbrev pub decreases-cut_tree : goal.decreases-cut_tree
decreases-cut_tree l = 2 * length l.below.now + 2

abbrev pub invariant-cut_all-loop-rest : goal.invariant-cut_all-loop-rest
invariant-cut_all-loop-rest l = Goes l.keys l.is_root l.position l.at l.nodes l.rest l.initial.cutting l.cutting

abbrev pub decreases-cut_all-loop-rest : goal.decreases-cut_all-loop-rest
decreases-cut_all-loop-rest l = length l.rest
