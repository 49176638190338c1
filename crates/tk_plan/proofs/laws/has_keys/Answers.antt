use Rattle.tk_plan.proofs.NodeKeys.{keyed}
use Rattle.tk_plan.proofs.laws.has_keys.Goals as goal

pub returns : goal.returns
returns c = keyed
