use Rattle.std.proofs.Common.{◌∙◌, sym, ap, subst, arith, All, slice_index_or}
use Rattle.tk_plan.specs.CuttingSteps.{HasNode}
use Rattle.tk_plan.specs.CuttingSteps.{end_events_of_spine}
use Rattle.tk_plan.specs.Trees.{forest}
use Rattle.tk_plan.specs.Events.{AreStatic}
use Rattle.tk_plan.specs.Cutting.{after_of}
use Rattle.tk_plan.proofs.TreePositions.{table_is}
use Rattle.tk_plan.proofs.SpineEmissions.{after_static}
use Rattle.tk_plan.proofs.SpineEvents.{tails_end, node_within, tails_next}
use Rattle.tk_plan.proofs.plans.Plan.after.Goals as goal

pub index-requires : goal.index-requires
index-requires c =
    let all = subst (All (HasNode c.self.inside.nodes.items)) (sym c.as_slice-spine-items.ensures.value) c.self.invariant.cut.finishes in
    omega (arith, node_within c.self.inside.nodes.items (slice_index_or c.as_slice-spine-items.result.now c.loop-spine.spine-index (record { position = 0; stamp = 0 })) (all c.loop-spine.spine-index (record { position = 0; stamp = 0 }) c.loop-spine-test.true), c.self.inside.nodes.ok)

pub loop-spine-preserved : goal.loop-spine-preserved
loop-spine-preserved c =
    let all = subst (All (HasNode c.self.inside.nodes.items)) (sym c.as_slice-spine-items.ensures.value) c.self.invariant.cut.finishes in
    tails_next c.self.inside.nodes.items c.as_slice-spine-items.result.now c.loop-spine.spine-index _ _ c.index.result.now _ _ all c.loop-spine-test.true c.index.ensures c.in_ok-push_finish_event.ensures c.loop-spine.invariant

pub returns-clause-lawful : goal.returns-clause-lawful
returns-clause-lawful c =
    let whole = ap (end_events_of_spine c.self.inside.nodes.items) c.as_slice-spine-items.ensures.value ∙ c.self.invariant.cut.after in
    let same = tails_end c.self.inside.nodes.items c.as_slice-spine-items.result.now c.loop-spine.spine-index c.loop-spine.events.items _ c.loop-spine-test.false c.loop-spine.invariant whole in
    subst (λ es. AreStatic c.args.self.now.table es) (sym same)
    (subst (λ t. AreStatic t (after_of (forest c.self.inside.nodes.items))) (table_is _ _ c.self.view_is) (after_static _ _ c.self.invariant.planned c.self.invariant.numbered))
