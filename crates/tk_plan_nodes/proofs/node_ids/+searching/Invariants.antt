use Rattle.std.proofs.Common.{◌≡◌, drop}
use Rattle.tk_plan_nodes.specs.steps.{ids_of_all, search_in}
use Rattle.tk_plan_nodes.proofs.node_ids.+searching.Given as goal

abbrev pub invariant-search_nodes-loop-node : goal.invariant-search_nodes-loop-node
invariant-search_nodes-loop-node l =
    search_in (ids_of_all l.nodes l.prefix) l.fn.left ≡ search_in (ids_of_all (drop l.node-index l.nodes) l.prefix) l.left
