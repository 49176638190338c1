use Rattle.std.proofs.Common.{subst}
use Rattle.tk_record.specs.Selections.{Selected, all_of}
use Rattle.tk_explanations.specs.Collisions.{ExplainsExclusive}
use Rattle.tk_expectations.proofs.Judging.{explained, judged}
use Rattle.tk_expectations.proofs.expectations.Expect.apart.Goals as goal

pub returns-clause-judged : goal.returns-clause-judged
returns-clause-judged c =
    let is_yes = c.in_ok-is_yes.is_yes in
    let bytes = c.explain_exclusive.new.target.bytes in
    let of_events = explained (ExplainsExclusive c.in_ok-events.events c.args.writers.now c.args.readers.now) c.new-explanation.result.bytes bytes is_yes c.explain_exclusive.result c.new-explanation.ensures.bytes c.in_ok-is_yes.was c.explain_exclusive.ensures.written in
    judged c.args.self (ExplainsExclusive (all_of c.args.self.«record».now) c.args.writers.now c.args.readers.now) is_yes bytes c.judge.result
    (subst (λ (s : Selected). ExplainsExclusive s c.args.writers.now c.args.readers.now is_yes bytes) c.in_ok-events.ensures of_events) c.judge.ensures
