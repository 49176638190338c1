-- The static nodes of a tree in preorder, with the numbers of their bodies.
use Rattle.std.specs.Prelude.{ℕ, List, ◌∷◌, Option, None, flat_map, get_or}
use Rattle.tk_plan_nodes.specs.declared.plan_nodes.PlanNode.{PlanNode}
use Rattle.tk_plan_nodes.specs.declared.plan_nodes.PlanNode.TheOpen.{PlanNode-F}
use Rattle.tk_plan_nodes.specs.declared.plan_nodes.PlanNode.TheFolds.{fold-PlanNode}
use Rattle.tk_plan_nodes.specs.NodeViews.{NodeView, layer_view}

-- a node's own value, and then those of each static node below it
abbrev pub layer_list : {A : Type 0} → (NodeView (List A) → A) → PlanNode-F (List A) → List A
layer_list value n = value (layer_view n) ∷ flat_map (λ below. below) (layer_view n).children

-- a value for each static node of a tree, in preorder, given that of a node alone
abbrev pub in_preorder : {A : Type 0} → (NodeView (List A) → A) → PlanNode → List A
in_preorder {A} value = fold-PlanNode (List A) (layer_list value)

-- the number of each static node's body, if it has one, in the order of the keys
abbrev pub bodies_of : PlanNode → List (Option ℕ)
bodies_of = in_preorder (λ n. n.body)

-- the number of the static node with this key
abbrev pub body_at : List (Option ℕ) → ℕ → Option ℕ
body_at bodies key = get_or bodies key None
