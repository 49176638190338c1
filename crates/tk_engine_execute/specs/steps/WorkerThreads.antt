-- The workers of a run, before their threads start and after all threads were joined.
use Rattle.std.specs.Prelude.{◌≡◌, ℕ, ◌<◌, ◌≤◌, true, false, length, vec_len, vec_capacity}
use Rattle.tk_engine_execute.specs.declared.workers.unstarted.UnstartedWorkers.{UnstartedWorkers}
use Rattle.tk_engine_execute.specs.declared.workers.threads.Collected.{Collected}
use Rattle.tk_engine_execute.specs.steps.EventCollectors.{TookMore, CanCollect, NoneIsAwaited}
use Rattle.tk_engine_execute.specs.steps.Workers.{SharedParts, RunUnits, AreUnstarted, AllDone}
use Rattle.tk_engine_execute.specs.steps.Workers.{AreDone}

-- no worker was joined yet, and there is room for the end of each
pub record CanRunWorkers (shared : SharedParts) (c : UnstartedWorkers) (t : Collected)
    : Type 0 where
  pub unstarted : AreUnstarted t.collector.receiver.session shared c
  pub collector : CanCollect t.collector
  pub empty : vec_len t.worker_ends ≡ 0
  pub room : vec_len c.senders ≤ vec_capacity t.worker_ends

-- After the threads of n workers were joined: no worker is awaited any more, and the ends are what
-- the workers have left. Where a thread was not started, an end is missing; else there is one of
-- each worker.
pub record WorkersWereRun (units : RunUnits) (n : ℕ) (old new : Collected) : Type 0 where
  pub took_more : TookMore old.collector new.collector
  pub collector : CanCollect new.collector
  pub none_is_awaited : NoneIsAwaited new.collector
  pub each : AreDone units old.collector.receiver.session n new.worker_ends.items
  pub lacks_thread :
      old.collector.lacks_thread ≡ false → new.collector.lacks_thread ≡ true
      → vec_len new.worker_ends < n
  pub count : new.collector.lacks_thread ≡ false → vec_len new.worker_ends ≡ n
  pub done :
      new.collector.lacks_thread ≡ false
      → AllDone units old.collector.receiver.session new.worker_ends.items

-- The threads of the workers 1 to n were joined, and no worker is awaited any more. The ends are
-- what the workers have left; where a thread was started for each, there is one of each.
pub record IsCollected (units : RunUnits) (n : ℕ) (t : Collected) : Type 0 where
  pub some : 0 < n
  pub workers : t.collector.receiver.workers ≡ n
  pub width : length t.collector.awaited.items ≡ n
  pub collector : CanCollect t.collector
  pub none_is_awaited : NoneIsAwaited t.collector
  pub each : AreDone units t.collector.receiver.session n t.worker_ends.items
  pub few : length t.worker_ends.items ≤ n
  pub count : t.collector.lacks_thread ≡ false → length t.worker_ends.items ≡ n
  pub done :
      t.collector.lacks_thread ≡ false
      → AllDone units t.collector.receiver.session t.worker_ends.items
