use Rattle.std.proofs.Common.{◌≡◌, ◌++◌, map, drop}
use Rattle.serde_json.specs.View.{view}
use Rattle.tk_plan_nodes.specs.NodeJson.{entry_json}
use Rattle.tk_plan_nodes.specs.NodeViews.{pairs_of}
use Rattle.tk_plan_nodes.proofs.node_values.entry_values.Given as goal

abbrev pub invariant-loop-entry : goal.invariant-loop-entry
invariant-loop-entry l = map view l.values.items ++ map entry_json (map (λ e. pairs_of e.items) (drop l.entry-index l.entries)) ≡ map entry_json (map (λ e. pairs_of e.items) l.entries)
