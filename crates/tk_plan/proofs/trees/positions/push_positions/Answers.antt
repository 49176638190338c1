use Rattle.std.proofs.Common.{◌≡◌, ℕ, ◌+◌, ◌<◌, List, [], ◌∷◌, ◌++◌, Bool, true, false, not, cond, length, drop, get_or, refl, sym, ap, ◌∙◌, subst, append_assoc, All}
use Rattle.std.proofs.Math.Bool.{beq}
use Rattle.std.proofs.lemmas.List.{drop_more, flat_map_more}
use Rattle.std.proofs.lemmas.List.Elements.{All-push}
use Rattle.tk_plan.specs.Numbers.{of_kind, top_node, at_positions}
use Rattle.tk_plan.specs.declared.trees.nodes.NumberedNode.{NumberedNode}
use Rattle.tk_plan.proofs.trees.positions.push_positions.Goals.{then-numbered_node-is_static+in_ok-push, else-numbered_node-is_static}
use Rattle.tk_plan.proofs.trees.positions.push_positions.Goals as goal

equal : (a b : Bool) → beq a b ≡ true → a ≡ b
equal true true e = refl
equal true false e = cc
equal false true e = cc
equal false false e = refl

opposite : (a b : Bool) → beq a b ≡ false → a ≡ not b
opposite true true e = cc
opposite true false e = refl
opposite false true e = refl
opposite false false e = cc

of_kind-same : (b : Bool) (p : NumberedNode) (ps : List NumberedNode) → p.node.is_static ≡ b → of_kind b (p ∷ ps) ≡ p.node ∷ of_kind b ps
of_kind-same true p ps e = ap (λ a. cond a (p.node ∷ of_kind true ps) (of_kind true ps)) e
of_kind-same false p ps e = ap (λ a. cond a (of_kind false ps) (p.node ∷ of_kind false ps)) e

of_kind-other : (b : Bool) (p : NumberedNode) (ps : List NumberedNode) → p.node.is_static ≡ not b → of_kind b (p ∷ ps) ≡ of_kind b ps
of_kind-other true p ps e = ap (λ a. cond a (p.node ∷ of_kind true ps) (of_kind true ps)) e
of_kind-other false p ps e = ap (λ a. cond a (of_kind false ps) (p.node ∷ of_kind false ps)) e

-- the node at i is next
module _ (nodes : List NumberedNode) (b : Bool) (is : List ℕ) (i : ℕ) (p : NumberedNode) (h : i < length nodes) (at : p ≡ get_or nodes i p) where
  abbrev later : List NumberedNode
  later = drop (i + 1) nodes

  rest : drop i nodes ≡ p ∷ later
  rest = drop_more nodes i p h ∙ ap (λ q. q ∷ later) (sym at)

  taken : beq p.node.is_static b ≡ true → at_positions nodes is ++ of_kind b (drop i nodes) ≡ at_positions nodes (is ++ i ∷ []) ++ of_kind b later
  unfolding rest
  taken e =
      ap (λ ps. at_positions nodes is ++ of_kind b ps) rest ∙ ap (λ ns. at_positions nodes is ++ ns) (of_kind-same b p later (equal p.node.is_static b e))
      ∙ sym (append_assoc (at_positions nodes is) (p.node ∷ []) (of_kind b later))
      ∙ ap (λ ns. (at_positions nodes is ++ ns) ++ of_kind b later) (sym (ap top_node rest))
      ∙ ap (λ ns. ns ++ of_kind b later) (flat_map_more (λ j. top_node (drop j nodes)) [] is i)

  passed : beq p.node.is_static b ≡ false → at_positions nodes is ++ of_kind b (drop i nodes) ≡ at_positions nodes is ++ of_kind b later
  unfolding rest
  passed e = ap (λ ps. at_positions nodes is ++ of_kind b ps) rest ∙ ap (λ ns. at_positions nodes is ++ ns) (of_kind-other b p later (opposite p.node.is_static b e))

pub loop-index-preserved : goal.loop-index-preserved
loop-index-preserved c =
    let l = c.loop-index in
    let nodes = c.args.nodes.now in
    let node = c.index-nodes-index in
    elim c.if-numbered_node-is_static.branch [
      | then-numbered_node-is_static+in_ok-push w ↦
          let put = sym (w.in_ok-push.ensures.items) ∙ ap (λ v. v.items) (sym w.positions-is) in (
            l.invariant.0 ∙ taken nodes c.args.is_static l.positions.items l.index node.result c.loop-index-test.true node.is w.if-numbered_node-is_static.true
                ∙ ap (λ is. at_positions nodes is ++ of_kind c.args.is_static (drop (l.index + 1) nodes)) put,
            subst (All (λ i. i < length nodes)) put (All-push (λ i. i < length nodes) l.positions.items l.index l.invariant.1 c.loop-index-test.true),
          )
      | else-numbered_node-is_static w ↦
          let kept = ap (λ v. v.items) (sym w.positions-is) in (
            l.invariant.0 ∙ passed nodes c.args.is_static l.positions.items l.index node.result c.loop-index-test.true node.is w.if-numbered_node-is_static.false
                ∙ ap (λ is. at_positions nodes is ++ of_kind c.args.is_static (drop (l.index + 1) nodes)) kept,
            subst (All (λ i. i < length nodes)) kept l.invariant.1,
          )
    ]
