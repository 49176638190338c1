-- The ids of the nodes of a plan in code, as texts, also of those that a plan refuses.
use Rattle.std.specs.Prelude.{ℕ, List, [], ◌∷◌, ◌++◌, Option, flat_map, slice_get}
use Rattle.tk_ids.specs.Characters.{slash}
use Rattle.tk_ids.specs.IdText.{segment_text}
use Rattle.tk_plan_nodes.specs.declared.plan_nodes.PlanNode.{PlanNode}
use Rattle.tk_plan_nodes.specs.declared.plan_nodes.PlanNode.TheOpen.{PlanNode-F}
use Rattle.tk_plan_nodes.specs.declared.plan_nodes.PlanNode.TheFolds.{fold-PlanNode}
use Rattle.tk_plan_nodes.specs.NodeViews.{NodeView, layer_view}

-- the ids of a node and of all below it, given the text before the node's own segment
abbrev pub IdsAfter : Type 0
IdsAfter = List ℕ → List (List ℕ)

-- a node's id, given the text before its own segment
abbrev pub own_id : {A : Type 0} → NodeView A → List ℕ → List ℕ
own_id n prefix = prefix ++ segment_text (record { tag = n.tag; value = n.value })

-- a node stands before those below it, and the static ones of those before the dynamic ones
abbrev pub layer_ids : PlanNode-F IdsAfter → IdsAfter
layer_ids n prefix =
    own_id (layer_view n) prefix
    ∷ flat_map (λ ids. ids (own_id (layer_view n) prefix ++ slash ∷ []))
    ((layer_view n).children ++ (layer_view n).dynamic)

abbrev pub ids_after : PlanNode → List ℕ → List (List ℕ)
ids_after = fold-PlanNode IdsAfter layer_ids

-- the id of the node with this number in preorder, if the tree has one
abbrev pub id_at : PlanNode → ℕ → Option (List ℕ)
id_at root number = slice_get (ids_after root []) number
