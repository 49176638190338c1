use Rattle.std.proofs.Common.{◌≡◌, ◌<◌, ℕ, false, slice_index_or}
use Rattle.tk_queue_session.proofs.tokens.first_undrained.Given as goal

abbrev pub invariant-loop-worker : goal.invariant-loop-worker
invariant-loop-worker l = (w : ℕ) → 0 < w → w < l.worker → ¬ (slice_index_or l.marked w false ≡ false)
