use Rattle.std.proofs.Common.{sym, ap, subst, arith}
use Rattle.tk_plan.specs.Trees.{IsForest, forest}
use Rattle.tk_plan.specs.Weights.{weights}
use Rattle.tk_plan.proofs.TreeMoves.{weights_end, counted_open, counted_skipped, own_within, after_node, first_and_rest}
use Rattle.tk_plan.proofs.scripts.counts.count_all.Goals as goal

pub returns : goal.returns
returns c = omega (arith, c.loop-rest.invariant.1, weights_end c.loop-rest.rest.now c.in_default.len_below)

pub returns-then-count-gt-MAX_EVENTS : goal.returns-then-count-gt-MAX_EVENTS
returns-then-count-gt-MAX_EVENTS c =
    let whole = first_and_rest c.loop-rest.rest.now c.numbered_node-item.result c.in-len1-up.len_at_least c.numbered_node-item.is in
    let same = ap (λ ps. weights (forest ps)) whole in
    let within = own_within _ _ (subst IsForest (sym whole) c.loop-rest.invariant.0) in
    omega (arith, c.loop-rest.invariant.1, same, within, c.own_events-count.ensures.same, c.if-count-gt-MAX_EVENTS.true)

pub loop-rest-preserved-then-is_some : goal.loop-rest-preserved-then-is_some
loop-rest-preserved-then-is_some c =
    let split = c.split.ensures in
    let whole = first_and_rest c.loop-rest.rest.now c.numbered_node-item.result c.in-len1-up.len_at_least c.numbered_node-item.is in
    let same = ap (λ ps. weights (forest ps)) whole in
    let counted = counted_skipped _ _ _ _ split (grind arith) in (
      split.second,
      omega (arith, c.loop-rest.invariant.1, same, counted, c.own_events-count.ensures.same, c.if-count-gt-MAX_EVENTS.false),
      omega (arith, c.if-count-gt-MAX_EVENTS.false),
    )

pub loop-rest-preserved : goal.loop-rest-preserved
loop-rest-preserved c =
    let split = c.split.ensures in
    let whole = first_and_rest c.loop-rest.rest.now c.numbered_node-item.result c.in-len1-up.len_at_least c.numbered_node-item.is in
    let same = ap (λ ps. weights (forest ps)) whole in
    let counted = counted_open _ _ _ _ split (grind arith) in (
      (after_node _ _ _ _ split).0,
      omega (arith, c.loop-rest.invariant.1, same, counted, c.own_events-count.ensures.same, c.if-count-gt-MAX_EVENTS.false),
      omega (arith, c.if-count-gt-MAX_EVENTS.false),
    )
