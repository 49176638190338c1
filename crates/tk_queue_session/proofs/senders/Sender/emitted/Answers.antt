use Rattle.std.proofs.Common.{subst}
use Rattle.crossbeam_queue.specs.Passes.{view}
use Rattle.tk_queue_session.specs.Senders.{EmitsLawfully}
use Rattle.tk_queue_session.proofs.SenderSteps.{emits_lawfully}
use Rattle.tk_queue_session.proofs.senders.Sender.emitted.Goals as goal

pub returns-clause-lawful : goal.returns-clause-lawful
returns-clause-lawful c = subst EmitsLawfully c.self.view_is (emits_lawfully _ (view c.self.inside.pass) _ _ c.self.invariant.1.may)
