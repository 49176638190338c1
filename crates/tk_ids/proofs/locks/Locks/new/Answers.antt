use Rattle.tk_ids.proofs.LockLemmas.{none_are}
use Rattle.tk_ids.proofs.locks.Locks.new.Goals as goal

pub invariant_of-result : goal.invariant_of-result
invariant_of-result c = none_are
