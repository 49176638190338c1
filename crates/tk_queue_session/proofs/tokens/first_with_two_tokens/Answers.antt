use Rattle.std.proofs.Common.{◌≡◌, ◌<◌, ℕ, subst, arith, rules}
use Rattle.tk_record.specs.Mixing.{IsWorkerOf}
use Rattle.tk_queue_session.specs.Tokens.{tokens_of}
use Rattle.tk_queue_session.proofs.CloseConclusions.{none_more, none_of}
use Rattle.tk_queue_session.proofs.tokens.first_with_two_tokens.Goals as goal

pub loop-worker-preserved : goal.loop-worker-preserved
loop-worker-preserved c = none_more (λ w. 1 < tokens_of w c.args.ended.now) _ c.loop-worker.invariant (λ many. let e = c.tokens_of.ensures in let no = c.if-tokens_of-gt1.false in absurd (omega arith))

pub returns-else-tokens_of-gt1 : goal.returns-else-tokens_of-gt1
returns-else-tokens_of-gt1 c =
    let last : c.loop-worker.worker ≡ c.args.workers = search rules in
    subst (λ n. (w : ℕ) → IsWorkerOf n w → ¬ (1 < tokens_of w c.args.ended.now)) last (none_of (λ w. 1 < tokens_of w c.args.ended.now) _ c.loop-worker.invariant (λ many. let e = c.tokens_of.ensures in let no = c.if-tokens_of-gt1.false in absurd (omega arith)))
