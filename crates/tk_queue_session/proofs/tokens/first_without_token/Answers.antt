use Rattle.std.proofs.Common.{◌≡◌, ℕ, subst, ◌∙◌, rules}
use Rattle.tk_record.specs.Mixing.{IsWorkerOf}
use Rattle.tk_queue_session.specs.Tokens.{tokens_of}
use Rattle.tk_queue_session.proofs.CloseConclusions.{none_more, none_of}
use Rattle.tk_queue_session.proofs.tokens.first_without_token.Goals as goal

pub loop-worker-preserved : goal.loop-worker-preserved
loop-worker-preserved c = none_more (λ w. tokens_of w c.args.ended.now ≡ 0) _ c.loop-worker.invariant (λ none. c.if-tokens_of-eq0.false (c.tokens_of.ensures ∙ none))

pub returns-else-tokens_of-eq0 : goal.returns-else-tokens_of-eq0
returns-else-tokens_of-eq0 c =
    let last : c.loop-worker.worker ≡ c.args.workers = search rules in
    subst (λ n. (w : ℕ) → IsWorkerOf n w → ¬ (tokens_of w c.args.ended.now ≡ 0)) last (none_of (λ w. tokens_of w c.args.ended.now ≡ 0) _ c.loop-worker.invariant (λ none. c.if-tokens_of-eq0.false (c.tokens_of.ensures ∙ none)))
