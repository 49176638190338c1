use Rattle.tk_locks.proofs.LoneWriters.{compatible_alone}
use Rattle.tk_locks.proofs.laws.writers_are_alone.Goals as goal

pub returns : goal.returns
returns c = compatible_alone
