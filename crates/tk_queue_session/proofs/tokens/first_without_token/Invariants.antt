use Rattle.std.proofs.Common.{◌≡◌, ◌<◌, ℕ}
use Rattle.tk_queue_session.specs.Tokens.{tokens_of}
use Rattle.tk_queue_session.proofs.tokens.first_without_token.Given as goal

abbrev pub invariant-loop-worker : goal.invariant-loop-worker
invariant-loop-worker l = (w : ℕ) → 0 < w → w < l.worker → ¬ (tokens_of w l.ended ≡ 0)
