use Rattle.tk_run_laws.proofs.LifecycleToListener.{lifecycle_is_relied_on}
use Rattle.tk_run_laws.proofs.laws.lifecycle_is_relied_on.Goals as goal

pub returns : goal.returns
returns c = lifecycle_is_relied_on
