use Rattle.tk_queue_session.proofs.SessionLaws.{one, none}
use Rattle.tk_queue_session.proofs.laws.one_reason_or_none.Goals as goal

pub returns-clause-one : goal.returns-clause-one
returns-clause-one c = one

pub returns-clause-none : goal.returns-clause-none
returns-clause-none c = none
