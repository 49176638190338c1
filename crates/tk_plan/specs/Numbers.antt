-- The numbers of a plan's nodes: the static ones in preorder, then the dynamic ones.
use Rattle.std.specs.Prelude.{◌≡◌, ℕ, ◌+◌, List, [], ◌∷◌, ◌++◌, Bool, true, false, if◌then◌else◌}
use Rattle.std.specs.Prelude.{flat_map, drop, All, Option, Some, None, slice_get, length, ◌<◌}
use Rattle.tk_plan.specs.declared.trees.nodes.Node.{Node}
use Rattle.tk_plan.specs.declared.trees.nodes.NumberedNode.{NumberedNode}

-- the static nodes in preorder, or the others
abbrev pub of_kind : Bool → List NumberedNode → List Node
of_kind b [] = []
of_kind true (p ∷ ps) = if p.node.is_static then p.node ∷ of_kind true ps else of_kind true ps
of_kind false (p ∷ ps) = if p.node.is_static then of_kind false ps else p.node ∷ of_kind false ps

-- the node of number k is item k
abbrev pub in_order : List NumberedNode → List Node
in_order ps = of_kind true ps ++ of_kind false ps

abbrev pub with_number : ℕ → NumberedNode → NumberedNode
with_number k p = record { node = p.node; number = k; span = p.span }

-- static nodes take numbers from s on, the others from d on
abbrev pub numbered_from : ℕ → ℕ → List NumberedNode → List NumberedNode
numbered_from s d [] = []
numbered_from s d (p ∷ ps) =
    if p.node.is_static then with_number s p ∷ numbered_from (s + 1) d ps
    else with_number d p ∷ numbered_from s (d + 1) ps

-- the nodes with their numbers: the dynamic ones follow the static ones
abbrev pub numbered : List NumberedNode → List NumberedNode
numbered ps = numbered_from 0 (length (of_kind true ps)) ps

-- the nodes have their numbers
abbrev pub IsNumbered : List NumberedNode → Type 0
IsNumbered ps = ps ≡ numbered ps

-- the first node, if there is one
abbrev pub top_node : List NumberedNode → List Node
top_node [] = []
top_node (p ∷ ps) = p.node ∷ []

-- the nodes at some places
abbrev pub at_positions : List NumberedNode → List ℕ → List Node
at_positions all = flat_map (λ i. top_node (drop i all))

-- the positions are those of the nodes in the order of their numbers
pub record ArePositionsByNumber (all : List NumberedNode) (positions : List ℕ) : Type 0 where
  pub order : at_positions all positions ≡ in_order all
  pub within : All (λ i. i < length all) positions

-- one of a node's entries
abbrev pub entry_of : Option Node → ℕ → Option (List (List ℕ × List ℕ))
entry_of None i = None
entry_of (Some n) i = slice_get n.entries i

-- the path of one of a node's files
abbrev pub path_of : Option Node → ℕ → Option (List ℕ)
path_of None i = None
path_of (Some n) i = slice_get n.files i
