-- The ids of a plan's nodes, and the descriptors of those that are static.
use Rattle.std.specs.Prelude.{◌≡◌, ℕ, List, [], ◌∷◌, ◌++◌, Some, slice_get, if◌then◌else◌}
use Rattle.tk_ids.specs.IdText.{SegmentView}
use Rattle.tk_ids.specs.declared.descriptors.Descriptor.{Descriptor}
use Rattle.tk_plan.specs.declared.trees.nodes.Node.{Node}
use Rattle.tk_plan.specs.DeclaredLocks.{declared_locks}
use Rattle.tk_plan.specs.Trees.{Tree, tree, Forest, no_trees, more}

-- The ids in preorder. A node's id is its parent's with its segment at the end.
abbrev mutual
  pub ids : List SegmentView → Tree → List (List SegmentView)
  ids above (tree n k f) = (above ++ n.segment ∷ []) ∷ ids_below (above ++ n.segment ∷ []) f

  pub ids_below : List SegmentView → Forest → List (List SegmentView)
  ids_below above no_trees = []
  ids_below above (more t f) = ids above t ++ ids_below above f

-- the descriptor of a static node, with the locks that it declares
abbrev pub descriptor : List SegmentView → Node → Descriptor
descriptor id n =
    record { id = id; name = n.name; dtype = n.dtype; locks = declared_locks n }

-- the descriptor of a static node, and none of a dynamic one
abbrev pub descriptor_in : List SegmentView → Node → List Descriptor
descriptor_in id n = if n.is_static then descriptor id n ∷ [] else []

-- the static nodes' descriptors, in preorder
abbrev mutual
  pub descriptors : List SegmentView → Tree → List Descriptor
  descriptors above (tree n k f) =
      descriptor_in (above ++ n.segment ∷ []) n ++ descriptors_below (above ++ n.segment ∷ []) f

  pub descriptors_below : List SegmentView → Forest → List Descriptor
  descriptors_below above no_trees = []
  descriptors_below above (more t f) = descriptors above t ++ descriptors_below above f

-- no id stands at two places
abbrev pub AreDistinct : List (List SegmentView) → Type 0
AreDistinct ids =
    (j k : ℕ) (id : List SegmentView) → slice_get ids j ≡ Some id → slice_get ids k ≡ Some id
    → j ≡ k
