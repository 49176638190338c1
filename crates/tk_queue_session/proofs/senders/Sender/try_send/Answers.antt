use Rattle.std.proofs.Common.{◌∙◌}
use Rattle.tk_queue_session.proofs.SenderSteps.{admitted_may, sender_sends, may_push}
use Rattle.tk_queue_session.proofs.senders.Sender.try_send.Goals as goal

pub try_push-requires-clause-may : goal.try_push-requires-clause-may
try_push-requires-clause-may g c =
    let h = c.self.invariant.1 in
    let m = admitted_may _ _ _ _ _ _ _ _ _ h c.self.view_is c.in_ok-event.ensures.ok in
    may_push _ _ _ _ _ _ h m.0 m.1

pub invariant_of-self : goal.invariant_of-self
invariant_of-self g c =
    let h = c.self.invariant.1 in
    let m = admitted_may _ _ _ _ _ _ _ _ _ h c.self.view_is c.in_ok-event.ensures.ok in
    let q = c.in-Ok.ensures.queue in
    ((q.0 ∙ c.self.invariant.0.0, q.2 ∙ c.self.invariant.0.1), sender_sends _ _ _ _ _ _ _ h c.in-Ok.ensures.pushed m.0 m.1 m.2)

pub invariant_of-self-in-Err-Entry : goal.invariant_of-self-in-Err-Entry
invariant_of-self-in-Err-Entry g c =
    let q = c.in-Err-Entry.ensures.queue in
    ((q.0 ∙ c.self.invariant.0.0, q.2 ∙ c.self.invariant.0.1), rw c.in-Err-Entry.ensures.pushed.1 c.self.invariant.1)
