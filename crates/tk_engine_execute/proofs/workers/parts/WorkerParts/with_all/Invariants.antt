use Rattle.std.proofs.Common.{◌≡◌, ◌+◌, ◌≤◌, ◌++◌, length, vec_len}
use Rattle.std.specs.Prelude.{vec_capacity}
use Rattle.std.specs.Option.{option_or}
use Rattle.std.specs.Vec.Iter.{into_iter_items}
use Rattle.tk_engine_execute.specs.steps.WorkerParts.{tokens_in, seats_in, first_failure}
use Rattle.tk_engine_execute.proofs.workers.parts.WorkerParts.with_all.Given as goal

abbrev pub invariant-loop-worker_end : goal.invariant-loop-worker_end
invariant-loop-worker_end l = record {
  tokens : l.parts.tokens.items ++ tokens_in (into_iter_items l.worker_end-iterator) ≡ tokens_in l.fn.worker_ends.items;
  seats : l.parts.seats.items ++ seats_in (into_iter_items l.worker_end-iterator) ≡ seats_in l.fn.worker_ends.items;
  failure : option_or l.parts.failure (first_failure (into_iter_items l.worker_end-iterator)) ≡ first_failure l.fn.worker_ends.items;
  token_room : vec_len l.parts.tokens + length (into_iter_items l.worker_end-iterator) ≤ vec_capacity l.parts.tokens;
  seat_room : vec_len l.parts.seats + length (into_iter_items l.worker_end-iterator) ≤ vec_capacity l.parts.seats;
}
