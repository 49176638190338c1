-- What private clauses and proofs alone name.
use Rattle.std.specs.Prelude.{ℕ, zero, suc, List, [], ◌∷◌, flat_map}
use Rattle.tk_plan_nodes.specs.NodeIds.{ids_after}
use Rattle.tk_plan_nodes.specs.declared.node_ids.Search.{Search}
use Rattle.tk_plan_nodes.specs.declared.node_ids.Search.TheVariants.{Found, Left}
use Rattle.tk_plan_nodes.specs.declared.plan_nodes.PlanNode.{PlanNode}

-- the ids of some nodes and of all below them
abbrev pub ids_of_all : List PlanNode → List ℕ → List (List ℕ)
ids_of_all nodes prefix = flat_map (λ n. ids_after n prefix) nodes

-- the id of that number, or how many more would have to be passed over
abbrev pub search_in : List (List ℕ) → ℕ → Search
search_in [] left = Left left
search_in (id ∷ ids) zero = Found id
search_in (id ∷ ids) (suc left) = search_in ids left
