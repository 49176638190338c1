use Rattle.std.proofs.Common.{◌≡◌, ◌++◌, map, drop}
use Rattle.serde_json.specs.View.{view}
use Rattle.tk_plan_nodes.specs.NodeJson.{lock_json}
use Rattle.tk_plan_nodes.proofs.node_values.lock_values.Given as goal

abbrev pub invariant-loop-lock : goal.invariant-loop-lock
invariant-loop-lock l = map view l.values.items ++ map lock_json (drop l.lock-index l.locks) ≡ map lock_json l.locks
