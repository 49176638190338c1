use Rattle.std.proofs.Common.{◌++◌, ◌∙◌, sym, ap, subst, arith, length, length-append}
use Rattle.tk_plan.specs.Trees.{forest}
use Rattle.tk_plan.proofs.TreeMoves.{first_and_rest}
use Rattle.tk_plan.proofs.Cuts.{Goes, goes_end, goes_next, static_tree, spine_facts, spine_weight, spine_adds, unit_adds}
use Rattle.tk_plan.proofs.units.cuttings.+cutting.Goals as goal

pub cut_all-cut_tree-requires : goal.cut_all-cut_tree-requires
cut_all-cut_tree-requires t c =
    let s = c.split.ensures in
    let whole = first_and_rest c.loop-rest.rest.now c.numbered_node-item.result c.in-len1-up.len_at_least c.numbered_node-item.is in
    let g = subst (λ ps. Goes c.args.keys.now c.args.is_root c.args.position c.loop-rest.at c.args.nodes.now ps c.args.cutting.now c.loop-rest.cutting) (sym whole) c.loop-rest.invariant in
    let one = static_tree _ _ _ _ s g.statics in
    let len = ap length s.whole ∙ length-append c.split.result.0.now c.split.result.1.now in
    (omega (arith, len, g.within), (c.requires.keys, (s.first, (s.span, (omega (arith, len, g.positions, c.requires.position), omega (arith, one.0, g.events, c.requires.limit))))))

pub cut_all-loop-rest-preserved : goal.cut_all-loop-rest-preserved
cut_all-loop-rest-preserved t c =
    let s = c.split.ensures in
    let whole = first_and_rest c.loop-rest.rest.now c.numbered_node-item.result c.in-len1-up.len_at_least c.numbered_node-item.is in
    let g = subst (λ ps. Goes c.args.keys.now c.args.is_root c.args.position c.loop-rest.at c.args.nodes.now ps c.args.cutting.now c.loop-rest.cutting) (sym whole) c.loop-rest.invariant in
    goes_next _ _ _ _ _ _ _ _ _ _ _ _ g s c.in_ok-cut_tree.ensures.event_count c.in_ok-cut_tree.ensures.adds

pub cut_all-returns : goal.cut_all-returns
cut_all-returns t c = let e = goes_end _ _ _ _ _ _ _ _ c.loop-rest.invariant c.in_default.len_below in record { event_count = e.0; adds = e.1 }

pub cut_tree-cut_all-requires : goal.cut_tree-cut_all-requires
cut_tree-cut_all-requires t c =
    let on = sym c.is_on_spine.ensures ∙ c.if-not-is_on_spine.false in
    let w = spine_weight c.args.is_root c.args.numbered_node.now.node c.args.numbered_node.now.number (forest c.args.below.now) on in
    (omega arith, (c.requires.keys, (c.requires.below, ((spine_facts c.args.is_root c.args.numbered_node.now.node (forest c.args.below.now) on).1, (omega (arith, c.requires.position), omega (arith, w, c.requires.limit, c.in_ok-begin.ensures.event_count))))))

pub cut_tree-returns-then-not-is_on_spine-clause-adds : goal.cut_tree-returns-then-not-is_on_spine-clause-adds
cut_tree-returns-then-not-is_on_spine-clause-adds t c = λ all rest e.
    unit_adds all _ _ _ c.args.is_root c.args.numbered_node.now.node c.args.numbered_node.now.number (forest c.args.below.now)
    (sym c.is_on_spine.ensures ∙ c.if-not-is_on_spine.true) (c.in_ok-add.ensures.adds all rest e)

pub cut_tree-returns-clause-adds : goal.cut_tree-returns-clause-adds
cut_tree-returns-clause-adds t c = λ all rest e.
    let on = sym c.is_on_spine.ensures ∙ c.if-not-is_on_spine.false in
    spine_adds c.args.keys.now _ _ _ _ c.args.is_root c.args.numbered_node.now (forest c.args.below.now) c.args.position c.args.below.now all rest on
    (c.in_ok-begin.ensures.adds c.args.keys.now all (c.args.below.now ++ rest) e) c.in_ok-cut_all.ensures.adds (c.in_ok-end.ensures.adds c.args.keys.now all (c.args.below.now ++ rest) e) e
