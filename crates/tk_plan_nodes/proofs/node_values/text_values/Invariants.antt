use Rattle.std.proofs.Common.{◌≡◌, ◌++◌, map, drop}
use Rattle.serde_json.specs.Data.{string}
use Rattle.serde_json.specs.View.{view}
use Rattle.tk_plan_nodes.specs.NodeViews.{texts_of}
use Rattle.tk_plan_nodes.proofs.node_values.text_values.Given as goal

abbrev pub invariant-loop-text : goal.invariant-loop-text
invariant-loop-text l = map view l.values.items ++ map string (texts_of (drop l.text-index l.texts)) ≡ map string (texts_of l.texts)
