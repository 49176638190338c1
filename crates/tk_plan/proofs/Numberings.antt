-- What doesn't depend on the numbers of nodes.
use Rattle.std.proofs.Common.{◌≡◌, ℕ, zero, suc, ◌+◌, ◌-◌, List, [], ◌∷◌, ◌++◌, Bool, cond, true, false, length, take, drop, map, is_some, refl, sym, ap, ap₂, ◌∙◌, subst, arith}
use Rattle.std.proofs.lemmas.List.{drop-map, take-map, length-map}
use Rattle.std.specs.List.{list_all}
use Rattle.tk_ids.specs.IdText.{SegmentView}
use Rattle.tk_ids.specs.declared.descriptors.Descriptor.{Descriptor}
use Rattle.tk_plan.specs.declared.trees.nodes.NumberedNode.{NumberedNode}
use Rattle.tk_plan.specs.Trees.{Tree, tree, Forest, no_trees, more, grow, forest, contents}
use Rattle.tk_plan.specs.Weights.{publications, weight, weights}
use Rattle.tk_plan.specs.Numbers.{with_number, numbered_from, numbered, of_kind, IsNumbered}
use Rattle.tk_plan.specs.Ids.{ids, ids_below, descriptor_in, descriptors, descriptors_below, AreDistinct}
use Rattle.tk_plan.specs.Keys.{lock_keys}
use Rattle.tk_plan.specs.Planned.{IsPlanned, is_rooted, is_lawful_node}
use Rattle.tk_plan.proofs.TreeMoves.{below-length}
use Rattle.tk_plan.proofs.Relabels.{same_forest}

-- ---- trees without numbers

abbrev mutual
  bare : Tree → Tree
  bare (tree n k f) = tree n 0 (bare_all f)

  bare_all : Forest → Forest
  bare_all no_trees = no_trees
  bare_all (more t f) = more (bare t) (bare_all f)

abbrev zeroed : List NumberedNode → List NumberedNode
zeroed = map (with_number 0)

grow-bare : (n : ℕ) (ps : List NumberedNode) → bare_all (grow n ps) ≡ grow n (zeroed ps)
unfolding grow
grow-bare zero ps = refl
grow-bare (suc n) [] = refl
grow-bare (suc n) (p ∷ ps) =
    ap₂ (λ a b. more (tree p.node 0 a) b)
    (grow-bare n (take (p.span - 1) ps) ∙ ap (grow n) (sym (take-map (with_number 0) (p.span - 1) ps)))
    (grow-bare n (drop (p.span - 1) ps) ∙ ap (grow n) (sym (drop-map (with_number 0) (p.span - 1) ps)))

forest-bare : (ps : List NumberedNode) → bare_all (forest ps) ≡ forest (zeroed ps)
unfolding forest
forest-bare ps = grow-bare (length ps) ps ∙ ap (λ n. grow n (zeroed ps)) (sym (length-map ps (with_number 0)))

zeroed_by : (b : Bool) (s d : ℕ) (p : NumberedNode) (x y z : List NumberedNode) → zeroed x ≡ z → zeroed y ≡ z → zeroed (cond b (with_number s p ∷ x) (with_number d p ∷ y)) ≡ with_number 0 p ∷ z
zeroed_by true s d p x y z e f = ap (λ l. with_number 0 p ∷ l) e
zeroed_by false s d p x y z e f = ap (λ l. with_number 0 p ∷ l) f

zeroed_numbered : (s d : ℕ) (ps : List NumberedNode) → zeroed (numbered_from s d ps) ≡ zeroed ps
zeroed_numbered s d [] = refl
zeroed_numbered s d (p ∷ ps) = zeroed_by p.node.is_static s d p _ _ _ (zeroed_numbered (s + 1) d ps) (zeroed_numbered s (d + 1) ps)

same_bare : (ps : List NumberedNode) → bare_all (forest (numbered ps)) ≡ bare_all (forest ps)
same_bare ps = forest-bare (numbered ps) ∙ ap forest (zeroed_numbered 0 _ ps) ∙ sym (forest-bare ps)

-- ---- what is blind to them

blind : {A : Type 0} (g : Forest → A) → ((f : Forest) → g (bare_all f) ≡ g f) → (ps : List NumberedNode) → g (forest (numbered ps)) ≡ g (forest ps)
blind g h ps = sym (h (forest (numbered ps))) ∙ ap g (same_bare ps) ∙ h (forest ps)

rooted-bare : (f : Forest) → is_rooted (bare_all f) ≡ is_rooted f
rooted-bare no_trees = refl
rooted-bare (more (tree n k g) no_trees) = refl
rooted-bare (more (tree n k g) (more (tree m j h) f)) = refl

mutual
  ids-bare : (above : List SegmentView) (t : Tree) → ids above (bare t) ≡ ids above t
  ids-bare above (tree n k f) = ap (λ l. (above ++ n.segment ∷ []) ∷ l) (ids_below-bare (above ++ n.segment ∷ []) f)

  ids_below-bare : (above : List SegmentView) (f : Forest) → ids_below above (bare_all f) ≡ ids_below above f
  ids_below-bare above no_trees = refl
  ids_below-bare above (more t f) = ap₂ (λ a b. a ++ b) (ids-bare above t) (ids_below-bare above f)

mutual
  descriptors-bare : (above : List SegmentView) (t : Tree) → descriptors above (bare t) ≡ descriptors above t
  descriptors-bare above (tree n k f) = ap (λ l. descriptor_in (above ++ n.segment ∷ []) n ++ l) (descriptors_below-bare (above ++ n.segment ∷ []) f)

  descriptors_below-bare : (above : List SegmentView) (f : Forest) → descriptors_below above (bare_all f) ≡ descriptors_below above f
  descriptors_below-bare above no_trees = refl
  descriptors_below-bare above (more t f) = ap₂ (λ a b. a ++ b) (descriptors-bare above t) (descriptors_below-bare above f)

mutual
  weight-bare : (t : Tree) → weight (bare t) ≡ weight t
  weight-bare (tree n k f) = ap (λ w. cond (is_some n.skip) 1 (2 + publications n + w)) (weights-bare f)

  weights-bare : (f : Forest) → weights (bare_all f) ≡ weights f
  weights-bare no_trees = refl
  weights-bare (more (tree n k g) f) = ap₂ (λ a b. cond n.is_static 0 1 + a + b) (weight-bare (tree n k g)) (weights-bare f)

-- ---- lists without numbers

through : {A : Type 0} (g : List NumberedNode → A) → ((ps : List NumberedNode) → g (zeroed ps) ≡ g ps) → (s d : ℕ) (ps : List NumberedNode) → g (numbered_from s d ps) ≡ g ps
through g h s d ps = sym (h (numbered_from s d ps)) ∙ ap g (zeroed_numbered s d ps) ∙ h ps

contents-zeroed : (ps : List NumberedNode) → contents (zeroed ps) ≡ contents ps
contents-zeroed [] = refl
contents-zeroed (p ∷ ps) = ap (λ l. p.node ∷ l) (contents-zeroed ps)

spans-zeroed : (ps : List NumberedNode) → map (λ p. p.span) (zeroed ps) ≡ map (λ p. p.span) ps
spans-zeroed [] = refl
spans-zeroed (p ∷ ps) = ap (λ l. p.span ∷ l) (spans-zeroed ps)

statics-zeroed : (ps : List NumberedNode) → of_kind true (zeroed ps) ≡ of_kind true ps
statics-zeroed [] = refl
statics-zeroed (p ∷ ps) = ap (λ l. cond p.node.is_static (p.node ∷ l) l) (statics-zeroed ps)

dynamics-zeroed : (ps : List NumberedNode) → of_kind false (zeroed ps) ≡ of_kind false ps
dynamics-zeroed [] = refl
dynamics-zeroed (p ∷ ps) = ap (λ l. cond p.node.is_static l (p.node ∷ l)) (dynamics-zeroed ps)

numbered-zeroed : (s d : ℕ) (ps : List NumberedNode) → numbered_from s d (zeroed ps) ≡ numbered_from s d ps
numbered-zeroed s d [] = refl
numbered-zeroed s d (p ∷ ps) = ap₂ (λ x y. cond p.node.is_static (with_number s p ∷ x) (with_number d p ∷ y)) (numbered-zeroed (s + 1) d ps) (numbered-zeroed s (d + 1) ps)

pub numbered_once : (ps : List NumberedNode) → IsNumbered (numbered ps)
numbered_once ps =
    let n = length (of_kind true ps) in
    sym (
    ap (λ k. numbered_from 0 k (numbered ps)) (ap length (through (of_kind true) statics-zeroed 0 n ps))
    ∙ through (numbered_from 0 n) (numbered-zeroed 0 n) 0 n ps
    )

-- ---- so a plan stays one

pub renumbered : (ps : List NumberedNode) (table : List Descriptor) → IsPlanned ps table → IsPlanned (numbered ps) table
renumbered ps table p =
    let n = length (of_kind true ps) in
    let same : contents (numbered ps) ≡ contents ps = through contents contents-zeroed 0 n ps in
    record {
      trees = same_forest ps (numbered ps) p.trees (through (map (λ p. p.span)) spans-zeroed 0 n ps);
      root = blind is_rooted rooted-bare ps ∙ p.root;
      lawful = ap (list_all is_lawful_node) same ∙ p.lawful;
      distinct = subst AreDistinct (sym (blind (ids_below []) (ids_below-bare []) ps)) p.distinct;
      described = p.described ∙ sym (blind (descriptors_below []) (descriptors_below-bare []) ps);
      few_static = p.few_static;
      few_dynamic = omega (arith, p.few_dynamic, ap length (through (of_kind false) dynamics-zeroed 0 n ps));
      few_keys = omega (arith, p.few_keys, ap (λ ns. length (lock_keys ns)) same);
      few_events = omega (arith, p.few_events, below-length 0 (forest ps), below-length 0 (forest (numbered ps)), blind weights weights-bare ps);
    }

pub same_contents_numbered : (ps : List NumberedNode) → contents (numbered ps) ≡ contents ps
same_contents_numbered ps = through contents contents-zeroed 0 _ ps

pub numbered-length : (ps : List NumberedNode) → length (numbered ps) ≡ length ps
numbered-length ps = sym (length-map (numbered ps) (with_number 0)) ∙ ap length (zeroed_numbered 0 _ ps) ∙ length-map ps (with_number 0)
