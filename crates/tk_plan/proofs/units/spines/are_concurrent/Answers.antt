use Rattle.std.proofs.Common.{◌∙◌, sym}
use Rattle.tk_plan.proofs.TreeMoves.{concurrent_end}
use Rattle.tk_plan.proofs.units.spines.are_concurrent.Goals as goal

pub returns : goal.returns
returns c = sym (concurrent_end c.loop-rest.rest.now c.in_default.len_below) ∙ c.loop-rest.invariant.1
