use Rattle.std.proofs.Common.{◌≡◌, drop}
use Rattle.tk_queue_session.specs.Tokens.{sent_by}
use Rattle.tk_queue_session.proofs.tokens.emitted_by.Given as goal

abbrev pub invariant-loop-token : goal.invariant-loop-token
invariant-loop-token l = sent_by (drop l.token-index l.ended) l.worker ≡ sent_by l.ended l.worker
