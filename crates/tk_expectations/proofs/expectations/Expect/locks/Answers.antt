use Rattle.std.proofs.Common.{subst}
use Rattle.tk_record.specs.Selections.{Selected, all_of}
use Rattle.tk_explanations.specs.LockCollisions.{ExplainsLocks}
use Rattle.tk_expectations.proofs.Judging.{explained, judged}
use Rattle.tk_expectations.proofs.expectations.Expect.locks.Goals as goal

pub returns : goal.returns
returns c =
    let is_yes = c.in_ok-is_yes.is_yes in
    let bytes = c.explain_locks.new.target.bytes in
    let of_events = explained (ExplainsLocks c.in_ok-events.events) c.new-explanation.result.bytes bytes is_yes c.explain_locks.result c.new-explanation.ensures.bytes c.in_ok-is_yes.was c.explain_locks.ensures.written in
    judged c.args.self (ExplainsLocks (all_of c.args.self.«record».now)) is_yes bytes c.judge.result
    (subst (λ (s : Selected). ExplainsLocks s is_yes bytes) c.in_ok-events.ensures of_events) c.judge.ensures
