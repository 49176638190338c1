use Rattle.std.proofs.Common.{◌∙◌, sym, ap, subst, arith, All, slice_index_or}
use Rattle.tk_plan.specs.CuttingSteps.{HasStampAt}
use Rattle.tk_plan.specs.CuttingSteps.{begin_events_of_spine}
use Rattle.tk_plan.specs.Trees.{forest}
use Rattle.tk_plan.specs.Events.{AreStatic}
use Rattle.tk_plan.specs.Cutting.{before_of}
use Rattle.tk_plan.proofs.TreePositions.{table_is}
use Rattle.tk_plan.proofs.SpineEmissions.{before_static}
use Rattle.tk_plan.proofs.SpineEvents.{heads_end, node_within, sits_node, stamps_small, heads_next}
use Rattle.tk_plan.proofs.plans.Plan.before.Goals as goal

pub index-requires : goal.index-requires
index-requires c =
    let all = subst (All (HasStampAt c.self.inside.nodes.items)) (sym c.as_slice-spine-items.ensures.value) c.self.invariant.cut.starts in
    omega (arith, node_within c.self.inside.nodes.items (slice_index_or c.as_slice-spine-items.result.now c.loop-spine.spine-index (record { position = 0; stamp = 0 })) (sits_node _ _ (all c.loop-spine.spine-index (record { position = 0; stamp = 0 }) c.loop-spine-test.true)), c.self.inside.nodes.ok)

pub loop-spine-preserved : goal.loop-spine-preserved
loop-spine-preserved c =
    let all = subst (All (HasStampAt c.self.inside.nodes.items)) (sym c.as_slice-spine-items.ensures.value) c.self.invariant.cut.starts in
    heads_next c.self.inside.nodes.items c.as_slice-spine-items.result.now c.loop-spine.spine-index _ _ c.index.result.now _ _ all c.loop-spine-test.true c.index.ensures c.in_ok-push_opening_events.ensures c.loop-spine.invariant

pub push_opening_events-requires : goal.push_opening_events-requires
push_opening_events-requires c =
    let all = subst (All (HasStampAt c.self.inside.nodes.items)) (sym c.as_slice-spine-items.ensures.value) c.self.invariant.cut.starts in
    stamps_small c.self.inside.nodes.items _ c.index.result.now (all c.loop-spine.spine-index (record { position = 0; stamp = 0 }) c.loop-spine-test.true) c.index.ensures

pub returns-clause-lawful : goal.returns-clause-lawful
returns-clause-lawful c =
    let whole = ap (begin_events_of_spine c.self.inside.nodes.items) c.as_slice-spine-items.ensures.value ∙ c.self.invariant.cut.before in
    let same = heads_end c.self.inside.nodes.items c.as_slice-spine-items.result.now c.loop-spine.spine-index c.loop-spine.events.items _ c.loop-spine-test.false c.loop-spine.invariant whole in
    subst (λ es. AreStatic c.args.self.now.table es) (sym same)
    (subst (λ t. AreStatic t (before_of (forest c.self.inside.nodes.items))) (table_is _ _ c.self.view_is) (before_static _ _ c.self.invariant.planned c.self.invariant.numbered))
