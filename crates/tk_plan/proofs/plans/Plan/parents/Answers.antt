use Rattle.std.proofs.Common.{◌++◌, sym, ap₂, ◌∙◌, subst}
use Rattle.tk_plan.specs.Parents.{AreParents, parents_below}
use Rattle.tk_plan.specs.Planned.{Outline}
use Rattle.tk_plan.specs.Trees.{forest}
use Rattle.tk_plan.proofs.ParentIds.{are_parents}
use Rattle.tk_plan.proofs.plans.Plan.parents.Goals as goal

pub returns-clause-related : goal.returns-clause-related
returns-clause-related c =
    let made = c.in_ok-push_parents.ensures ∙ ap₂ (λ l ps. l ++ parents_below 0 (forest ps)) c.in_ok-parents.ensures.items c.as_slice.ensures.value in
    subst (AreParents c.args.self.now.table) (sym made)
    (subst (λ (o : Outline). AreParents o.table (parents_below 0 (forest c.self.inside.nodes.items))) c.self.view_is (are_parents _ _ c.self.invariant.planned c.self.invariant.numbered))
