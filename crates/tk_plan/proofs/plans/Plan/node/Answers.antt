use Rattle.std.proofs.Common.{arith}
use Rattle.tk_plan.proofs.TreePositions.{nodes_are}
use Rattle.tk_plan.proofs.NodeOrder.{enough, node_at, position_within}
use Rattle.tk_plan.proofs.plans.Plan.node.Goals as goal

pub index-position-requires : goal.index-position-requires
index-position-requires c = omega (arith, enough _ _ _ c.args.number c.self.invariant.numbered_node (nodes_are _ _ c.self.view_is) c.requires, c.self.inside.positions.ok)

pub index-requires : goal.index-requires
index-requires c =
    let within = enough _ _ _ c.args.number c.self.invariant.numbered_node (nodes_are _ _ c.self.view_is) c.requires in
    omega (arith, position_within _ _ c.args.number c.index-position.result.now c.self.invariant.numbered_node within c.index-position.ensures, c.self.inside.nodes.ok)

pub returns : goal.returns
returns c =
    let within = enough _ _ _ c.args.number c.self.invariant.numbered_node (nodes_are _ _ c.self.view_is) c.requires in
    node_at _ _ _ c.args.number c.index-position.result.now c.index.result.now c.self.invariant.numbered_node (nodes_are _ _ c.self.view_is) within c.index-position.ensures c.index.ensures
