-- The JSON objects that the code makes.
use Rattle.std.proofs.Common.{◌≡◌, ◌++◌, List, [], ◌∷◌, BTreeMap, String, Global, codes, map, refl, sym, ap, ◌∙◌}
use Rattle.serde_json.specs.Data.{Members, no_members, object, put}
use Rattle.serde_json.specs.View.{view, members_view}
use Rattle.serde_json.specs.declared.value.Value.{Value, Object}
use Rattle.serde_json.proofs.Views.{view-Object}
use Rattle.tk_plan_nodes.specs.NodeJson.{NamedJson, with_members, json_object, node_json, layer_json, heading_members, concurrency_members, content_members, array_members}
use Rattle.tk_plan_nodes.specs.NodeViews.{node_view}
use Rattle.tk_plan_nodes.specs.declared.plan_nodes.PlanNode.{PlanNode}
use Rattle.tk_plan_nodes.specs.declared.plan_nodes.PlanNode.TheFolds.{fold_out-PlanNode}

pub members_append : (found : Members) (a b : List NamedJson) → with_members found (a ++ b) ≡ with_members (with_members found a) b
members_append found [] b = refl
members_append found (m ∷ a) b = members_append (put m.0 m.1 found) a b

-- an object, by its members
pub view_of_object : (m : BTreeMap (String Global) Value) (ms : List NamedJson) → members_view m.entries ≡ with_members no_members ms → view (Object m) ≡ json_object ms
view_of_object m ms e = view-Object m ∙ ap object e

-- a node's value, by those of the nodes below it
pub json_of_node : (n : PlanNode) → node_json n
    ≡ json_object (heading_members (node_view n) ++ concurrency_members (node_view n) ++ content_members (node_view n)
    ++ array_members (codes "children") (map node_json (node_view n).children) ++ array_members (codes "dynamic") (map node_json (node_view n).dynamic))
json_of_node n = fold_out-PlanNode _ layer_json n

-- two lists of members that are put after others
pub below_put : (ms children dynamic : List NamedJson) → with_members (with_members (with_members no_members ms) children) dynamic ≡ with_members no_members (ms ++ children ++ dynamic)
below_put ms children dynamic = sym (members_append no_members (ms ++ children) dynamic ∙ ap (λ found. with_members found dynamic) (members_append no_members ms children))
