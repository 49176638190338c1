-- What a tree says in preorder, from what the trees below its root say.
use Rattle.std.proofs.Common.{◌≡◌, ℕ, List, [], ◌∷◌, ◌++◌, Option, sym, ap, ◌∙◌, append_assoc}
use Rattle.std.specs.List.{flat_map}
use Rattle.std.proofs.lemmas.List.Folds.{flat_map-map}
use Rattle.tk_plan_nodes.specs.Bodies.{layer_list, bodies_of}
use Rattle.tk_plan_nodes.specs.NodeViews.{node_view}
use Rattle.tk_plan_nodes.specs.declared.plan_nodes.PlanNode.{PlanNode}
use Rattle.tk_plan_nodes.specs.declared.plan_nodes.PlanNode.TheFolds.{fold_out-PlanNode}

bodies_of_node : (n : PlanNode) → bodies_of n ≡ (node_view n).body ∷ flat_map bodies_of (node_view n).children
bodies_of_node n = fold_out-PlanNode _ (layer_list (λ l. l.body)) n ∙ ap (λ bs. (node_view n).body ∷ bs) (flat_map-map (λ bs. bs) bodies_of (node_view n).children)

-- after other numbers, a node's own and those below it
pub own_then_below : (ns : List (Option ℕ)) (n : PlanNode) → (ns ++ (node_view n).body ∷ []) ++ flat_map bodies_of (node_view n).children ≡ ns ++ bodies_of n
own_then_below ns n = append_assoc ns _ _ ∙ ap (λ bs. ns ++ bs) (sym (bodies_of_node n))
