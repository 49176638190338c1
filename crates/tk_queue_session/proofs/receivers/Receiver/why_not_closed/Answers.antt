use Rattle.std.proofs.Common.{subst}
use Rattle.tk_queue_session.specs.Closing.{IsCloseFault, IsComplete}
use Rattle.tk_queue_session.specs.Receivers.{taken_of}
use Rattle.tk_queue_session.specs.declared.close_faults.CloseReason.TheVariants.{Missing, Twice, NotDrained}
use Rattle.tk_queue_session.proofs.CloseConclusions.{some_token, one_token, marks_missing, marks_whole, if_none_from}
use Rattle.crossbeam_queue.specs.Passes.{view}
use Rattle.tk_queue_session.proofs.receivers.Receiver.why_not_closed.Goals as goal

pub returns-in-Some-clause-fault : goal.returns-in-Some-clause-fault
returns-in-Some-clause-fault c = subst (λ r. IsCloseFault (Missing c.in-Some.worker) r c.args.ended.now) c.self.view_is c.in-Some.ensures

pub returns-in-Some-first_with_two_tokens-clause-fault : goal.returns-in-Some-first_with_two_tokens-clause-fault
returns-in-Some-first_with_two_tokens-clause-fault c =
    subst (λ r. IsCloseFault (Twice c.in-Some-first_with_two_tokens.worker) r c.args.ended.now) c.self.view_is (some_token c.self.inside.workers c.args.ended.now c.in_default.ensures, c.in-Some-first_with_two_tokens.ensures)

pub returns-in_err-worker-clause-ok : goal.returns-in_err-worker-clause-ok
returns-in_err-worker-clause-ok c = if_none_from _ _ (subst (λ r. IsComplete r c.args.ended.now) c.self.view_is (record {
  once = one_token c.self.inside.workers c.args.ended.now c.in_default.ensures c.in_default-first_with_two_tokens.ensures;
  drained = marks_whole c.self.inside.workers c.self.inside.marked (taken_of (view c.self.inside.pass)) c.self.invariant.1.recordable.limit c.self.invariant.1.marks c.in_err-worker.ensures;
}))

pub returns-clause-fault : goal.returns-clause-fault
returns-clause-fault c = subst (λ r. IsCloseFault (NotDrained c.in_ok-worker.worker) r c.args.ended.now) c.self.view_is (
  one_token c.self.inside.workers c.args.ended.now c.in_default.ensures c.in_default-first_with_two_tokens.ensures,
  marks_missing c.self.inside.workers c.self.inside.marked (taken_of (view c.self.inside.pass)) c.self.invariant.1.recordable.limit c.self.invariant.1.marks c.in_ok-worker.worker c.in_ok-worker.ensures,
)
