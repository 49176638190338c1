use Rattle.std.proofs.Common.{◌≡◌, false, sym, subst, ◌∙◌}
use Rattle.tk_queue_session.specs.declared.items.Item.TheVariants.{Entry as Emitted}
use Rattle.crossbeam_queue.specs.Passes.{view}
use Rattle.tk_queue_session.specs.PassViews.{IsReader}
use Rattle.tk_queue_session.specs.Receivers.{ReceiverView, MayBeTaken, taken_of, is_marked}
use Rattle.tk_queue_session.proofs.ReceiverSteps.{takes_entry, takes_mark, follows_now, follows_recorded}
use Rattle.tk_queue_session.proofs.RuleSteps.{pops_own, learns_own}
use Rattle.tk_queue_session.proofs.receivers.Receiver.take.Goals as goal

pub pop_as-requires-clause-rule : goal.pop_as-requires-clause-rule
pop_as-requires-clause-rule g c =
    let reader = subst IsReader (sym c.self.invariant.1.is) tt in
    (pops_own _ _ reader, learns_own _ _ reader)

pub invariant_of-self : goal.invariant_of-self
invariant_of-self g c =
    let q = c.in-Some-End.ensures.queue in
    ((q.0 ∙ c.self.invariant.0.0, q.2 ∙ c.self.invariant.0.1), (takes_mark _ _ _ _ _ _ c.self.invariant.1 (rw c.in-Some-End.field-0-is at c.in-Some-End.ensures.rule)).1)

pub invariant_of-self-in-Some-Entry : goal.invariant_of-self-in-Some-Entry
invariant_of-self-in-Some-Entry g c =
    let q = c.in-Some-Entry.ensures.queue in
    ((q.0 ∙ c.self.invariant.0.0, q.2 ∙ c.self.invariant.0.1), takes_entry _ _ _ _ _ _ c.self.invariant.1 (rw c.in-Some-Entry.field-0-is at c.in-Some-Entry.ensures.rule))

pub returns-in-Some-End-clause-recordable : goal.returns-in-Some-End-clause-recordable
returns-in-Some-End-clause-recordable g c = (takes_mark _ _ _ _ _ _ c.self.invariant.1 (rw c.in-Some-End.field-0-is at c.in-Some-End.ensures.rule)).1.recordable

pub returns-in-Some-Entry-clause-recordable : goal.returns-in-Some-Entry-clause-recordable
returns-in-Some-Entry-clause-recordable g c = (takes_entry _ _ _ _ _ _ c.self.invariant.1 (rw c.in-Some-Entry.field-0-is at c.in-Some-Entry.ensures.rule)).recordable

pub returns-in-Some-Entry-clause-follows : goal.returns-in-Some-Entry-clause-follows
returns-in-Some-Entry-clause-follows g c =
    subst (λ (r : ReceiverView). MayBeTaken r (Emitted c.in-Some-Entry.entry)) c.self.view_is
    (follows_recorded _ (taken_of (view c.self.inside.pass)) _ (follows_now _ _ _ _ _ _ c.self.invariant.1 (rw c.in-Some-Entry.field-0-is at c.in-Some-Entry.ensures.rule)).1)

pub returns-in-Some-End-clause-unmarked : goal.returns-in-Some-End-clause-unmarked
returns-in-Some-End-clause-unmarked g c =
    subst (λ (r : ReceiverView). is_marked c.in-Some-End.worker r.taken ≡ false) c.self.view_is
    (follows_now _ _ _ _ _ _ c.self.invariant.1 (rw c.in-Some-End.field-0-is at c.in-Some-End.ensures.rule)).2

pub returns-in-Some-Entry-clause-unmarked : goal.returns-in-Some-Entry-clause-unmarked
returns-in-Some-Entry-clause-unmarked g c =
    subst (λ (r : ReceiverView). is_marked c.in-Some-Entry.entry.worker r.taken ≡ false) c.self.view_is
    (follows_now _ _ _ _ _ _ c.self.invariant.1 (rw c.in-Some-Entry.field-0-is at c.in-Some-Entry.ensures.rule)).2
