use Rattle.tk_queue_session.proofs.Recordables.{is_never_refused, is_short}
use Rattle.tk_queue_session.proofs.laws.no_entry_is_refused.Goals as goal

pub returns-clause-never : goal.returns-clause-never
returns-clause-never c = is_never_refused

pub returns-clause-short : goal.returns-clause-short
returns-clause-short c = is_short
