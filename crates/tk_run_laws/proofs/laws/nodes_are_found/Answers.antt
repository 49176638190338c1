use Rattle.tk_run_laws.proofs.RegisteredDescriptors.{nodes_found}
use Rattle.tk_run_laws.proofs.laws.nodes_are_found.Goals as goal

pub returns : goal.returns
returns c = nodes_found
