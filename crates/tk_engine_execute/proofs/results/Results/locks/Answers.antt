use Rattle.std.proofs.Common.{IfOk, subst}
use Rattle.tk_record.specs.Selections.{Selected}
use Rattle.tk_query_locks.specs.LockAnswers.{IsLockAnswer}
use Rattle.tk_engine_execute.proofs.results.Results.locks.Goals as goal

pub returns : goal.returns
returns c = subst (λ (s : Selected). IfOk c.locks.result (IsLockAnswer s)) c.in_ok-events.ensures c.locks.ensures
