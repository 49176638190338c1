use Rattle.std.proofs.Common.{arith}
use Rattle.tk_plan.proofs.TreePositions.{stands_length}
use Rattle.tk_plan.proofs.units.unit_trees.tree_at.Goals as goal

pub bounds-nodes-position : goal.bounds-nodes-position
bounds-nodes-position c = omega (arith, stands_length c.args.nodes.now c.args.position c.requires.top c.requires.below c.requires.rest c.requires.position)

pub split_at-requires : goal.split_at-requires
split_at-requires c = omega (arith, stands_length c.args.nodes.now c.args.position c.requires.top c.requires.below c.requires.rest c.requires.position)
