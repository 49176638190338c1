use Rattle.std.proofs.Common.{◌∙◌, sym}
use Rattle.tk_plan.proofs.TreeMoves.{is_leaf_when_empty}
use Rattle.tk_plan.proofs.units.spines.is_leaf.Goals as goal

pub returns : goal.returns
returns c = c.is_empty.ensures ∙ sym (is_leaf_when_empty _)
