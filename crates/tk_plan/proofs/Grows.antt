-- Nodes in preorder, taken apart.
use Rattle.std.proofs.Common.{◌≡◌, ℕ, zero, suc, ◌-◌, ◌≤◌, List, [], ◌∷◌, ◌++◌, length, take, drop, refl, sym, ap, ap₂, ◌∙◌, arith, length-append}
use Rattle.std.proofs.Math.Seq.{take-append_seam, drop-append_seam}
use Rattle.tk_plan.specs.declared.trees.nodes.NumberedNode.{NumberedNode}
use Rattle.tk_plan.specs.Trees.{tree, Forest, no_trees, more, flats, grow, forest, IsForest, IsSplit}

pub grow-flats : (f : Forest) (n : ℕ) → length (flats f) ≤ n → grow n (flats f) ≡ f
unfolding grow
grow-flats no_trees zero h = refl
grow-flats no_trees (suc n) h = refl
grow-flats (more (tree m k g) f) zero h = absurd (omega arith)
grow-flats (more (tree m k g) f) (suc n) h =
    let both = length-append (flats g) (flats f) in
    let one : suc (length (flats g)) - 1 ≡ length (flats g) = omega arith in
    let left : take (suc (length (flats g)) - 1) (flats g ++ flats f) ≡ flats g = ap (λ i. take i (flats g ++ flats f)) one ∙ take-append_seam (flats g) (flats f) in
    let right : drop (suc (length (flats g)) - 1) (flats g ++ flats f) ≡ flats f = ap (λ i. drop i (flats g ++ flats f)) one ∙ drop-append_seam (flats g) (flats f) in
    ap₂ (λ a b. more (tree m k (grow n a)) (grow n b)) left right
    ∙ ap₂ (λ a b. more (tree m k a) b) (grow-flats g n (omega (arith, both))) (grow-flats f n (omega (arith, both)))

pub forest-flats : (f : Forest) → forest (flats f) ≡ f
unfolding forest
forest-flats f = grow-flats f (length (flats f)) (omega arith)

pub is_forest : (ps : List NumberedNode) (f : Forest) → ps ≡ flats f → IsForest ps
unfolding IsForest
is_forest ps f e = e ∙ ap flats (sym (ap forest e ∙ forest-flats f))

seam : (n : ℕ) (xs ys zs : List NumberedNode) → n ≡ length xs → zs ≡ xs ++ ys → (take n zs ≡ xs) × (drop n zs ≡ ys)
seam n xs ys zs h e = (ap₂ take h e ∙ take-append_seam xs ys, ap₂ drop h e ∙ drop-append_seam xs ys)

pub record Parts (p : NumberedNode) (ps : List NumberedNode) : Type 0 where
  pub one : 1 ≤ p.span
  pub within : p.span - 1 ≤ length ps
  pub split : IsSplit p ps (take (p.span - 1) ps) (drop (p.span - 1) ps)

parted_at : (p : NumberedNode) (ps : List NumberedNode) (g f : Forest) → p.span ≡ suc (length (flats g)) → ps ≡ flats g ++ flats f → Parts p ps
unfolding IsForest
parted_at p ps g f s e =
    let both = ap length e ∙ length-append (flats g) (flats f) in
    let cut = seam (p.span - 1) (flats g) (flats f) ps (omega (arith, s)) e in
    let same : p ∷ ps ≡ flats (more (tree p.node p.number g) f) = ap₂ (λ n qs. record { node = p.node; number = p.number; span = n } ∷ qs) s e in
    record {
      one = omega (arith, s);
      within = omega (arith, s, both);
      split = record {
        span = s ∙ ap suc (ap length (sym cut.0));
        whole = e ∙ sym (ap₂ (λ a b. a ++ b) cut.0 cut.1);
        first = is_forest _ g cut.0;
        second = is_forest _ f cut.1;
        trees = ap forest same ∙ forest-flats (more (tree p.node p.number g) f) ∙ sym (ap₂ (λ a b. more (tree p.node p.number a) b) (ap forest cut.0 ∙ forest-flats g) (ap forest cut.1 ∙ forest-flats f));
      };
    }

head_of : NumberedNode → List NumberedNode → NumberedNode
head_of p [] = p
head_of p (q ∷ qs) = q

tail_of : List NumberedNode → List NumberedNode
tail_of [] = []
tail_of (q ∷ qs) = qs

parted_by : (f : Forest) (p : NumberedNode) (ps : List NumberedNode) → p ∷ ps ≡ flats f → Parts p ps
unfolding head_of tail_of
parted_by no_trees p ps e = absurd (grind arith)
parted_by (more (tree m k g) f) p ps e = parted_at p ps g f (ap (λ qs. (head_of p qs).span) e) (ap tail_of e)

pub parted : (p : NumberedNode) (ps : List NumberedNode) → IsForest (p ∷ ps) → Parts p ps
unfolding IsForest
parted p ps e = parted_by (forest (p ∷ ps)) p ps e

pub forest_nil : forest [] ≡ no_trees
unfolding forest grow
forest_nil = refl
