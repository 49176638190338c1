use Rattle.std.proofs.Common.{◌++◌, sym, ap, ◌∙◌, append-nil}
use Rattle.tk_plan.proofs.ParentIds.{parents_end}
use Rattle.tk_plan.proofs.trees.parents.+parents.Goals as goal

pub returns : goal.returns
returns t c = sym (c.loop-rest.invariant.2 ∙ ap (λ ps. c.loop-rest.parents.items ++ ps) (parents_end c.args.above c.loop-rest.rest.now c.in_default.len_below) ∙ append-nil _)
