-- Which static nodes stand below which.
use Rattle.std.specs.Prelude.{◌≡◌, ℕ, ◌<◌, List, [], ◌∷◌, ◌++◌, Some, length, slice_get}
use Rattle.std.specs.Prelude.{if◌then◌else◌}
use Rattle.tk_ids.specs.IdText.{SegmentView, parent_of}
use Rattle.tk_ids.specs.Table.{ids_of}
use Rattle.tk_ids.specs.declared.descriptors.Descriptor.{Descriptor}
use Rattle.tk_plan.specs.Trees.{Tree, tree, Forest, no_trees, more}

-- for each static node, in preorder, the number of the node above it; that above the trees is given
abbrev mutual
  pub parents : ℕ → Tree → List ℕ
  parents above (tree n k f) = (if n.is_static then above ∷ [] else []) ++ parents_below k f

  pub parents_below : ℕ → Forest → List ℕ
  parents_below above no_trees = []
  parents_below above (more t f) = parents above t ++ parents_below above f

-- a static key has an id of more than one segment, and a second key the id above it
pub record HasParentAt (table : List Descriptor) (key above : ℕ) : Type 0 where
  pub id : List SegmentView
  pub its : slice_get (ids_of table) key ≡ Some id
  pub long : 1 < length id
  pub parent : slice_get (ids_of table) above ≡ Some (parent_of id)

-- each static key but the first has its parent at the number given for it, where that is a key
abbrev pub AreParents : List Descriptor → List ℕ → Type 0
AreParents table numbers =
    (key above : ℕ) → 0 < key → slice_get numbers key ≡ Some above → above < length table
    → HasParentAt table key above
