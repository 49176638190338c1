use Rattle.std.proofs.Common.{◌∙◌}
use Rattle.tk_queue_session.proofs.SenderSteps.{admitted_may, sender_sends, may_push}
use Rattle.tk_queue_session.proofs.senders.Sender.send.Goals as goal

pub push-requires-clause-may : goal.push-requires-clause-may
push-requires-clause-may g c =
    let h = c.self.invariant.1 in
    let m = admitted_may _ _ _ _ _ _ _ _ _ h c.self.view_is c.in_ok-event.ensures.ok in
    may_push _ _ _ _ _ _ h m.0 m.1

pub invariant_of-self : goal.invariant_of-self
invariant_of-self g c =
    let h = c.self.invariant.1 in
    let m = admitted_may _ _ _ _ _ _ _ _ _ h c.self.view_is c.in_ok-event.ensures.ok in
    let q = c.push.ensures.queue in
    ((q.0 ∙ c.self.invariant.0.0, q.2 ∙ c.self.invariant.0.1), sender_sends _ _ _ _ _ _ _ h c.push.ensures.pushed m.0 m.1 m.2)
