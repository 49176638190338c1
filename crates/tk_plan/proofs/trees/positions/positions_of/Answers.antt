use Rattle.std.proofs.Common.{refl}
use Rattle.tk_plan.proofs.NodeOrder.{placed_all}
use Rattle.tk_plan.proofs.trees.positions.positions_of.Goals as goal

pub returns : goal.returns
returns c = placed_all c.args.nodes.now _ _ _ _ _ refl refl c.new-positions.ensures.items c.in_ok-push_positions.ensures.nodes c.in_ok-push_positions-2.ensures.nodes c.in_ok-push_positions-2.ensures.within
