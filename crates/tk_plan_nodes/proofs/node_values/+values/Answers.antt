use Rattle.std.proofs.Common.{◌++◌, List, codes, map, ap, ap₂, sym, ◌∙◌}
use Rattle.tk_plan_nodes.specs.NodeJson.{NamedJson, with_members, array_members, heading_members, concurrency_members, content_members, node_json}
use Rattle.tk_plan_nodes.specs.NodeViews.{node_view}
use Rattle.tk_plan_nodes.proofs.JsonObjects.{below_put, view_of_object, json_of_node}
use Rattle.tk_plan_nodes.proofs.node_values.+values.Goals as goal

pub node_value-returns : goal.node_value-returns
node_value-returns t c =
    let n = node_view c.args.node.now in
    let own : List NamedJson = heading_members n ++ concurrency_members n ++ content_members n in
    let children : List NamedJson = array_members (codes "children") (map node_json n.children) in
    let dynamic : List NamedJson = array_members (codes "dynamic") (map node_json n.dynamic) in
    let of_children = c.in_ok-children.ensures ∙ ap (map node_json) c.as_slice.ensures.value in
    let of_dynamic = c.in_ok-dynamic.ensures ∙ ap (map node_json) c.as_slice-2.ensures.value in
    let one = c.in_ok-put_array.ensures ∙ ap₂ (λ ms js. with_members ms (array_members (codes "children") js)) c.in_ok-members.ensures of_children in
    let two = c.in_ok-put_array-2.ensures ∙ ap₂ (λ ms js. with_members ms (array_members (codes "dynamic") js)) one of_dynamic in
    view_of_object c.put_array-2.new.members (own ++ children ++ dynamic) (two ∙ below_put own children dynamic) ∙ sym (json_of_node c.args.node.now)
