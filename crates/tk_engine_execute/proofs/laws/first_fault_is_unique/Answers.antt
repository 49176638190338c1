use Rattle.tk_engine_execute.proofs.Faults.{one_first_fault}
use Rattle.tk_engine_execute.proofs.laws.first_fault_is_unique.Goals as goal

pub returns : goal.returns
returns c = one_first_fault
