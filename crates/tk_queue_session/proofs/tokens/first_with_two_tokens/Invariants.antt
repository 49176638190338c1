use Rattle.std.proofs.Common.{◌<◌, ℕ}
use Rattle.tk_queue_session.specs.Tokens.{tokens_of}
use Rattle.tk_queue_session.proofs.tokens.first_with_two_tokens.Given as goal

abbrev pub invariant-loop-worker : goal.invariant-loop-worker
invariant-loop-worker l = (w : ℕ) → 0 < w → w < l.worker → ¬ (1 < tokens_of w l.ended)
