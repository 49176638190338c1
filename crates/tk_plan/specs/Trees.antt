-- A plan is a tree of nodes. Each has its number.
use Rattle.std.specs.Prelude.{◌≡◌, ℕ, zero, suc, ◌-◌, List, [], ◌∷◌, ◌++◌, length, take, drop, map}
use Rattle.tk_plan.specs.declared.trees.nodes.Node.{Node}
use Rattle.tk_plan.specs.declared.trees.nodes.NumberedNode.{NumberedNode}

mutual
  -- a node with its number, and the trees below it
  pub data Tree : Type 0 where
    tree : Node → ℕ → Forest → Tree

  -- trees, one after another
  pub data Forest : Type 0 where
    no_trees : Forest
    more : Tree → Forest → Forest

-- the nodes of a tree in preorder, each with the number of nodes from it down
abbrev mutual
  pub flat : Tree → List NumberedNode
  flat (tree n k f) = record { node = n; number = k; span = suc (length (flats f)) } ∷ flats f

  pub flats : Forest → List NumberedNode
  flats no_trees = []
  flats (more t f) = flat t ++ flats f

-- the trees that some nodes in preorder are, cut by their spans; the first number is not less than
-- that of the nodes
unfoldable pub grow : ℕ → List NumberedNode → Forest
grow zero ps = no_trees
grow (suc n) [] = no_trees
grow (suc n) (p ∷ ps) =
    more (tree p.node p.number (grow n (take (p.span - 1) ps))) (grow n (drop (p.span - 1) ps))

unfoldable pub forest : List NumberedNode → Forest
forest ps = grow (length ps) ps

-- the nodes are the preorder of some trees
unfoldable pub IsForest : List NumberedNode → Type 0
IsForest ps = ps ≡ flats (forest ps)

-- the first of the trees, given its top node and what comes after it
abbrev pub first_tree : NumberedNode → List NumberedNode → Tree
first_tree p ps = tree p.node p.number (forest (take (p.span - 1) ps))

-- the tree of a node, given the nodes below it
abbrev pub tree_of : NumberedNode → List NumberedNode → Tree
tree_of p below = tree p.node p.number (forest below)

-- what comes after a first node, split into what is below it and the other trees
pub record IsSplit (p : NumberedNode) (after below others : List NumberedNode) : Type 0 where
  pub span : p.span ≡ suc (length below)
  pub whole : after ≡ below ++ others
  pub first : IsForest below
  pub second : IsForest others
  pub trees : forest (p ∷ after) ≡ more (tree p.node p.number (forest below)) (forest others)

-- the number of the tree's top node
abbrev pub number_of : Tree → ℕ
number_of (tree n k f) = k

-- what the plan says of the nodes, without their numbers
abbrev pub contents : List NumberedNode → List Node
contents = map (λ p. p.node)
