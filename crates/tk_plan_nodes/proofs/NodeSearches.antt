-- A search for a node, by searches below its parents.
use Rattle.std.proofs.Common.{◌≡◌, ◌≢◌, ℕ, zero, suc, ◌-◌, List, [], ◌∷◌, ◌++◌, map, Option, Some, None, slice_get, refl, sym, ap, ap₂, ◌∙◌, arith}
use Rattle.std.proofs.lemmas.Grind.{flat_map-append}
use Rattle.std.proofs.lemmas.List.Folds.{flat_map-map}
use Rattle.tk_ids.specs.Characters.{slash}
use Rattle.tk_plan_nodes.specs.NodeIds.{own_id, layer_ids, ids_after}
use Rattle.tk_plan_nodes.specs.steps.{ids_of_all, search_in}
use Rattle.tk_plan_nodes.specs.NodeViews.{node_view}
use Rattle.tk_plan_nodes.specs.declared.node_ids.Search.{Search}
use Rattle.tk_plan_nodes.specs.declared.node_ids.Search.TheVariants.{Found, Left}
use Rattle.tk_plan_nodes.specs.declared.plan_nodes.PlanNode.{PlanNode}
use Rattle.tk_plan_nodes.specs.declared.plan_nodes.PlanNode.TheFolds.{fold_out-PlanNode}

-- the rest is searched where nothing was found yet
pub left_over : (xs ys : List (List ℕ)) (n m : ℕ) → Left m ≡ search_in xs n → search_in (xs ++ ys) n ≡ search_in ys m
left_over [] ys n m e = ap (λ (s : Search). past s) (sym e)
  where
    past : Search → Search
    past (Left k) = search_in ys k
    past (Found id) = Found id
left_over (x ∷ xs) ys zero m e = absurd (cc)
left_over (x ∷ xs) ys (suc n) m e = left_over xs ys n m e

pub found_before : (xs ys : List (List ℕ)) (n : ℕ) (id : List ℕ) → Found id ≡ search_in xs n → search_in (xs ++ ys) n ≡ Found id
found_before [] ys n id e = absurd (cc)
found_before (x ∷ xs) ys zero id e = sym e
found_before (x ∷ xs) ys (suc n) id e = found_before xs ys n id e

-- what is found stands at the place that was looked for
pub get_found : (ids : List (List ℕ)) (n : ℕ) (id : List ℕ) → Found id ≡ search_in ids n → slice_get ids n ≡ Some id
get_found [] n id e = absurd (cc)
get_found (x ∷ xs) zero id e = ap (λ (s : Search). in_search s) (sym e)
  where
    in_search : Search → Option (List ℕ)
    in_search (Found y) = Some y
    in_search (Left k) = None
get_found (x ∷ xs) (suc n) id e = get_found xs n id e

pub get_nothing : (ids : List (List ℕ)) (n m : ℕ) → Left m ≡ search_in ids n → slice_get ids n ≡ None
get_nothing [] n m e = refl
get_nothing (x ∷ xs) zero m e = absurd (cc)
get_nothing (x ∷ xs) (suc n) m e = get_nothing xs n m e

-- a node's id, and then those of the nodes below it
module _ (n : PlanNode) (prefix : List ℕ) where
  abbrev pub next : List ℕ
  next = own_id (node_view n) prefix ++ slash ∷ []

  pub ids_of_node : ids_after n prefix ≡ own_id (node_view n) prefix ∷ (ids_of_all (node_view n).children next ++ ids_of_all (node_view n).dynamic next)
  ids_of_node =
      ap (λ ids. ids prefix) (fold_out-PlanNode _ layer_ids n)
      ∙ ap (λ l. own_id (node_view n) prefix ∷ l) (flat_map-append (λ ids. ids next) (map ids_after (node_view n).children) (map ids_after (node_view n).dynamic)
      ∙ ap₂ (λ a b. a ++ b) (flat_map-map (λ ids. ids next) ids_after (node_view n).children) (flat_map-map (λ ids. ids next) ids_after (node_view n).dynamic))

  pub found_here : (id : List ℕ) (left : ℕ) → id ≡ own_id (node_view n) prefix → left ≡ 0 → Found id ≡ search_in (ids_after n prefix) left
  unfolding ids_of_node
  found_here id left e zero_left = ap Found e ∙ sym (ap₂ search_in ids_of_node zero_left)

  pub passed : (prefix_below : List ℕ) (left : ℕ) → prefix_below ≡ next → left ≢ 0
      → search_in (ids_after n prefix) left ≡ search_in (ids_of_all (node_view n).children prefix_below ++ ids_of_all (node_view n).dynamic prefix_below) (left - 1)
  unfolding ids_of_node
  passed prefix_below left e some =
      let up : left ≡ suc (left - 1) = omega arith in
      ap₂ search_in ids_of_node up
      ∙ ap (λ p. search_in (ids_of_all (node_view n).children p ++ ids_of_all (node_view n).dynamic p) (left - 1)) (sym e)
