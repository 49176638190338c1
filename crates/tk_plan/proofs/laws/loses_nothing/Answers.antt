use Rattle.tk_plan.proofs.Cuts.{parts_below-moves}
use Rattle.tk_plan.proofs.laws.loses_nothing.Goals as goal

pub returns : goal.returns
returns c = parts_below-moves
