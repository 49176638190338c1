use Rattle.std.proofs.Common.{◌++◌, ◌∙◌, sym, ap, arith, append-nil, length, length-append}
use Rattle.tk_plan.specs.Trees.{forest}
use Rattle.tk_plan.specs.Weights.{weights}
use Rattle.tk_plan.proofs.TreeMoves.{below_end, first_and_rest, tree_within}
use Rattle.tk_plan.proofs.scripts.moves.+moving.Goals as goal

pub push_all-push_tree-requires : goal.push_all-push_tree-requires
push_all-push_tree-requires t c =
    let split = c.split.ensures in
    let whole = ap length split.whole in
    let same = ap (λ ps. weights (forest ps)) (first_and_rest c.loop-rest.rest.now c.numbered_node-item.result c.in-len1-up.len_at_least c.numbered_node-item.is) in (
      omega (arith, whole, length-append c.split.result.0.now c.split.result.1.now),
      (split.first, omega (arith, same, tree_within _ _ _ _ split, c.loop-rest.invariant.2)),
    )

pub push_all-returns : goal.push_all-returns
push_all-returns t c =
    sym (c.loop-rest.invariant.3 ∙ ap (λ ms. c.loop-rest.moves.items ++ ms) (below_end c.args.parent c.loop-rest.rest.now c.in_default.len_below) ∙ append-nil _)
