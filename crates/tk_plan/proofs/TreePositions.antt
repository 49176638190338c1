-- A tree that stands at a place.
use Rattle.std.proofs.Common.{◌≡◌, ℕ, ◌+◌, List, ◌∷◌, ◌++◌, length, drop, sym, ap, arith, length-append, length-drop}
use Rattle.tk_plan.specs.declared.trees.nodes.NumberedNode.{NumberedNode}
use Rattle.tk_plan.specs.Planned.{Outline}
use Rattle.tk_plan.specs.Trees.{tree, forest, IsForest, contents, flat}

pub table_is : (a b : Outline) → a ≡ b → a.table ≡ b.table
table_is a b e = ap (λ v. v.table) e

pub nodes_are : (a b : Outline) → a ≡ b → a.nodes ≡ b.nodes
nodes_are a b e = ap (λ v. v.nodes) e

pub stands_length : (all : List NumberedNode) (at : ℕ) (top : NumberedNode) (below rest : List NumberedNode) → drop at all ≡ top ∷ (below ++ rest) → length all ≡ at + 1 + length below + length rest
stands_length all at top below rest e = omega (arith, ap length e, length-drop at all, length-append below rest)

-- the nodes of a tree
pub same_contents : (p : NumberedNode) (below : List NumberedNode) → IsForest below → contents (flat (tree p.node p.number (forest below))) ≡ contents (p ∷ below)
unfolding IsForest
same_contents p below e = ap (λ ps. p.node ∷ contents ps) (sym e)
