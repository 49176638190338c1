use Rattle.std.proofs.Common.{◌≡◌, ◌++◌, map, drop}
use Rattle.serde_json.specs.View.{view}
use Rattle.tk_plan_nodes.specs.NodeJson.{json_pair}
use Rattle.tk_plan_nodes.specs.NodeViews.{pairs_of}
use Rattle.tk_plan_nodes.proofs.node_values.entry_value.Given as goal

abbrev pub invariant-loop-pair : goal.invariant-loop-pair
invariant-loop-pair l = map view l.values.items ++ map json_pair (pairs_of (drop l.pair-index l.pairs)) ≡ map json_pair (pairs_of l.pairs)
