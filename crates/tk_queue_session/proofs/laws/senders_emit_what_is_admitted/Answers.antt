use Rattle.tk_queue_session.proofs.SessionLaws.{more, sent}
use Rattle.tk_queue_session.proofs.laws.senders_emit_what_is_admitted.Goals as goal

pub returns-clause-last : goal.returns-clause-last
returns-clause-last c = more

pub returns-clause-admitted : goal.returns-clause-admitted
returns-clause-admitted c = sent
