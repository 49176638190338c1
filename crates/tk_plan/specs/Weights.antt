-- How many moves a tree makes.
use Rattle.std.specs.Prelude.{ℕ, ◌+◌, length, is_some, if◌then◌else◌}
use Rattle.tk_plan.specs.declared.trees.nodes.Node.{Node}
use Rattle.tk_plan.specs.Trees.{Tree, tree, Forest, no_trees, more}

-- how many moves register the top node: one where it is dynamic, and else none
abbrev pub registered : Tree → ℕ
registered (tree n k f) = if n.is_static then 0 else 1

-- how many entries and files a node publishes
abbrev pub publications : Node → ℕ
publications n = length n.entries + length n.files

abbrev mutual
  pub weight : Tree → ℕ
  weight (tree n k f) = if is_some n.skip then 1 else 2 + publications n + weights f

  pub weights : Forest → ℕ
  weights no_trees = 0
  weights (more t f) = registered t + weight t + weights f
