-- Whether some nodes are a forest rests on their spans alone.
use Rattle.std.proofs.Common.{◌≡◌, ℕ, suc, List, [], ◌∷◌, ◌++◌, length, take, drop, map, refl, sym, ap, ap₂, ◌∙◌, arith}
use Rattle.std.proofs.lemmas.List.{drop-map, take-map, map-append, length-map, take-append-drop}
use Rattle.std.proofs.Math.Seq.{take-append_seam, drop-append_seam}
use Rattle.tk_plan.specs.declared.trees.nodes.NumberedNode.{NumberedNode}
use Rattle.tk_plan.specs.Trees.{tree, Forest, no_trees, more, flats, forest, IsForest}
use Rattle.tk_plan.proofs.Grows.{is_forest}

spans : List NumberedNode → List ℕ
spans = map (λ p. p.span)

head_or : List ℕ → ℕ
head_or [] = 0
head_or (n ∷ ns) = n

tail_or : List ℕ → List ℕ
tail_or [] = []
tail_or (n ∷ ns) = ns

prefix_spans : (m : ℕ) (qs xs ys : List NumberedNode) → spans qs ≡ spans (xs ++ ys) → m ≡ length xs → (spans (take m qs) ≡ spans xs) × (spans (drop m qs) ≡ spans ys)
unfolding spans
prefix_spans m qs xs ys e h =
    let whole : spans qs ≡ spans xs ++ spans ys = e ∙ map-append _ xs ys in
    let at : m ≡ length (spans xs) = h ∙ sym (length-map xs _) in (
      sym (take-map _ m qs) ∙ ap₂ take at whole ∙ take-append_seam (spans xs) (spans ys),
      sym (drop-map _ m qs) ∙ ap₂ drop at whole ∙ drop-append_seam (spans xs) (spans ys),
    )

relabeled : (f : Forest) (qs : List NumberedNode) → spans qs ≡ spans (flats f) → (g : Forest) × (qs ≡ flats g)
unfolding spans head_or tail_or
relabeled no_trees [] e = (no_trees, refl)
relabeled no_trees (q ∷ qs) e = absurd (omega (arith, ap length e))
relabeled (more (tree n k b) f) [] e = absurd (omega (arith, ap length e))
relabeled (more (tree n k b) f) (q ∷ qs) e =
    let m = length (flats b) in
    let span : q.span ≡ suc m = ap head_or e in
    let parts = prefix_spans m qs (flats b) (flats f) (ap tail_or e) refl in
    let one = relabeled b (take m qs) parts.0 in
    let two = relabeled f (drop m qs) parts.1 in
    let size : m ≡ length (flats one.0) = sym (length-map (flats b) _) ∙ sym (ap length parts.0) ∙ length-map (take m qs) _ ∙ ap length one.1 in (
      more (tree q.node q.number one.0) two.0,
      ap₂ (λ s l. record { node = q.node; number = q.number; span = s } ∷ l) (span ∙ ap suc size) (sym (take-append-drop m qs) ∙ ap₂ (λ x y. x ++ y) one.1 two.1),
    )

pub same_forest : (ps qs : List NumberedNode) → IsForest ps → map (λ p. p.span) qs ≡ map (λ p. p.span) ps → IsForest qs
unfolding IsForest spans
same_forest ps qs h e = let r = relabeled (forest ps) qs (e ∙ ap spans h) in is_forest qs r.0 r.1
