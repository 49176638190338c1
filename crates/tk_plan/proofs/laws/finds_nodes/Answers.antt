use Rattle.tk_plan.proofs.NodeOrder.{all_numbered}
use Rattle.tk_plan.proofs.laws.finds_nodes.Goals as goal

pub returns : goal.returns
returns c = all_numbered
