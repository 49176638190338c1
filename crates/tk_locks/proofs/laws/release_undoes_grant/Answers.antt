use Rattle.tk_locks.proofs.HeldWords.{compatible, undone}
use Rattle.tk_locks.proofs.laws.release_undoes_grant.Goals as goal

pub returns-clause-compatible : goal.returns-clause-compatible
returns-clause-compatible c = compatible

pub returns-clause-undone : goal.returns-clause-undone
returns-clause-undone c = undone
