use Rattle.std.proofs.Common.{ap, sym, ◌∙◌}
use Rattle.tk_plan.specs.Trees.{forest}
use Rattle.tk_plan.specs.Weights.{weights}
use Rattle.tk_plan.proofs.TreePositions.{nodes_are}
use Rattle.tk_plan.proofs.TreeMoves.{below-length}
use Rattle.tk_plan.proofs.plans.Plan.total_events.Goals as goal

pub returns : goal.returns
returns c = c.self.invariant.cut.total ∙ ap (λ ps. weights (forest ps)) (nodes_are _ _ c.self.view_is) ∙ sym (below-length 0 _)
