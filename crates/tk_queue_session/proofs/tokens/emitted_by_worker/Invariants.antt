use Rattle.std.proofs.Common.{◌≡◌, ◌+◌, ◌<◌, ◌≤◌, ◌⊎◌, ℕ, length, slice_index}
use Rattle.tk_queue_session.specs.Limits.{worker_slots}
use Rattle.tk_queue_session.specs.Tokens.{sent_by}
use Rattle.tk_queue_session.proofs.tokens.emitted_by_worker.Given as goal

abbrev pub invariant-loop-worker : goal.invariant-loop-worker
invariant-loop-worker l = record {
  few : l.worker ≤ l.workers + 1;
  long : length l.emitted ≡ worker_slots;
  each : (w : ℕ) → 0 < w → w < l.worker → slice_index l.emitted w ≡ length (sent_by l.ended w);
  others : (w : ℕ) → (w ≡ 0) ⊎ (l.worker ≤ w) → slice_index l.emitted w ≡ 0;
}
