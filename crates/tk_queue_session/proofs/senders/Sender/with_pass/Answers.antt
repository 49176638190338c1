use Rattle.std.proofs.Common.{sym, subst}
use Rattle.std.specs.Arc.{arc_value}
use Rattle.crossbeam_queue.specs.Passes.{view}
use Rattle.tk_queue_session.specs.Senders.{IsSender}
use Rattle.tk_queue_session.proofs.SenderSteps.{sender_fresh}
use Rattle.tk_queue_session.proofs.senders.Sender.with_pass.Goals as goal

pub invariant_of-result : goal.invariant_of-result
invariant_of-result c = (
  c.requires.queue,
  subst (λ ids. IsSender (view c.args.pass) (record { table = arc_value c.args.table; worker = c.args.worker; ids = ids; emitted = 0 })) (sym c.new.ensures.items) (sender_fresh _ _ _ c.requires.fresh c.requires.worker.0 c.requires.worker.1),
)
