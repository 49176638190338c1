use Rattle.std.proofs.Common.{◌≡◌, ◌++◌, drop}
use Rattle.std.specs.List.{flat_map}
use Rattle.tk_plan_nodes.specs.BodyCalls.{calls}
use Rattle.tk_plan_nodes.proofs.body_calls.+adding.Given as goal

abbrev pub invariant-push_nodes-loop-node : goal.invariant-push_nodes-loop-node
invariant-push_nodes-loop-node l =
    l.nodes.items ++ flat_map (λ n. (calls n).nodes l.above l.prefix) (drop l.node-index l.added)
    ≡ l.fn.nodes.items ++ flat_map (λ n. (calls n).nodes l.above l.prefix) l.added
