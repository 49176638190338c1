-- The table's descriptors are those of the static nodes.
use Rattle.std.proofs.Common.{◌≡◌, suc, ◌+◌, ◌*◌, ◌≤◌, List, [], ◌∷◌, ◌++◌, Bool, cond, true, false, length, refl, sym, ap, ap₂, ◌∙◌, arith, length-append}
use Rattle.tk_ids.specs.declared.tables.TheConstants.{MAX_DESCRIPTORS}
use Rattle.tk_ids.specs.IdText.{SegmentView}
use Rattle.tk_ids.specs.declared.descriptors.Descriptor.{Descriptor}
use Rattle.tk_plan.specs.declared.trees.nodes.Node.{Node}
use Rattle.tk_plan.specs.declared.trees.nodes.NumberedNode.{NumberedNode}
use Rattle.tk_plan.specs.Trees.{Tree, tree, Forest, no_trees, more, flat, flats, forest, IsForest}
use Rattle.tk_plan.specs.Numbers.{of_kind}
use Rattle.tk_plan.specs.Ids.{descriptors, descriptors_below}
use Rattle.tk_plan.specs.Planned.{IsPlanned}
use Rattle.tk_plan.proofs.NodeOrder.{order_length}

either_append : (b : Bool) (n : Node) (xs ys zs : List Node) → zs ≡ xs ++ ys → cond b (n ∷ zs) zs ≡ cond b (n ∷ xs) xs ++ ys
either_append true n xs ys zs e = ap (λ l. n ∷ l) e
either_append false n xs ys zs e = e

pub statics-append : (xs ys : List NumberedNode) → of_kind true (xs ++ ys) ≡ of_kind true xs ++ of_kind true ys
statics-append [] ys = refl
statics-append (x ∷ xs) ys = either_append x.node.is_static x.node (of_kind true xs) (of_kind true ys) _ (statics-append xs ys)

one_more : (b : Bool) (d : Descriptor) (n : Node) (ds : List Descriptor) (ns : List Node) → length ds ≡ length ns → length (cond b (d ∷ []) [] ++ ds) ≡ length (cond b (n ∷ ns) ns)
one_more true d n ds ns e = ap suc e
one_more false d n ds ns e = e

mutual
  pub descriptors-length : (above : List SegmentView) (t : Tree) → length (descriptors above t) ≡ length (of_kind true (flat t))
  descriptors-length above (tree n k f) = one_more n.is_static _ n _ _ (descriptors_below-length (above ++ n.segment ∷ []) f)

  pub descriptors_below-length : (above : List SegmentView) (f : Forest) → length (descriptors_below above f) ≡ length (of_kind true (flats f))
  descriptors_below-length above no_trees = refl
  descriptors_below-length above (more t f) =
      length-append (descriptors above t) (descriptors_below above f)
      ∙ ap₂ (λ a b. a + b) (descriptors-length above t) (descriptors_below-length above f)
      ∙ sym (length-append (of_kind true (flat t)) (of_kind true (flats f)))
      ∙ ap length (sym (statics-append (flat t) (flats f)))

pub statics_length : (ps : List NumberedNode) (table : List Descriptor) → IsPlanned ps table → length table ≡ length (of_kind true ps)
unfolding IsForest
statics_length ps table p = ap length p.described ∙ descriptors_below-length [] (forest ps) ∙ ap (λ qs. length (of_kind true qs)) (sym p.trees)

pub few_nodes : (ps : List NumberedNode) (table : List Descriptor) → IsPlanned ps table → length ps ≤ 2 * MAX_DESCRIPTORS
few_nodes ps table p = omega (arith, statics_length ps table p, p.few_static, p.few_dynamic, order_length ps)
