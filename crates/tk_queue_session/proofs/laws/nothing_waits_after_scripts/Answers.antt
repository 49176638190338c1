use Rattle.tk_queue_session.proofs.SessionLaws.{scripts}
use Rattle.tk_queue_session.proofs.laws.nothing_waits_after_scripts.Goals as goal

pub returns : goal.returns
returns c = scripts
