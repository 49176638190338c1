use Rattle.std.proofs.Common.{◌≡◌, ◌++◌, map, drop}
use Rattle.serde_json.specs.View.{view}
use Rattle.tk_plan_nodes.specs.NodeJson.{node_json}
use Rattle.tk_plan_nodes.proofs.node_values.+values.Given as goal

abbrev pub invariant-node_values-loop-node : goal.invariant-node_values-loop-node
invariant-node_values-loop-node l = map view l.values.items ++ map node_json (drop l.node-index l.nodes) ≡ map node_json l.nodes
