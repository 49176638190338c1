-- What a run begins with.
use Rattle.std.specs.Prelude.{◌≡◌, ℕ, ◌<◌, ◌≤◌, Bool, true, false, List, length, Some, slice_get}
use Rattle.std.specs.Prelude.{vec_len, vec_capacity}
use Rattle.tk_ids.specs.declared.descriptors.Descriptor.{Descriptor}
use Rattle.tk_base.specs.declared.limits.TheConstants.{MAX_WORKERS}
use Rattle.tk_events.specs.declared.events.Event.{Event}
use Rattle.tk_queue_session.specs.declared.limits.TheConstants.{MAX_CAPACITY}
use Rattle.tk_queue_session.specs.Emission.{entries_by}
use Rattle.tk_queue_session.specs.Receivers.{fresh_receiver}
use Rattle.tk_queue_session.specs.Limits.{capacity_of}
use Rattle.tk_engine_execute.specs.declared.runs.collectors.EventCollector.{EventCollector}
use Rattle.tk_engine_execute.specs.declared.runs.prepared.PreparedRun.{PreparedRun}
use Rattle.tk_engine_execute.specs.Engines.{AreOfWorkerZero}
use Rattle.tk_engine_execute.specs.steps.WorkerParts.{HasRoomFor}
use Rattle.tk_engine_execute.specs.steps.Workers.{shared_parts, AreUnstarted}

-- a number of workers that a run may have
pub record IsWorkerCount (workers : ℕ) : Type 0 where
  pub some : 0 < workers
  pub few : workers ≤ MAX_WORKERS

-- how many items the queue of a run may hold
pub record IsCapacity (capacity : ℕ) : Type 0 where
  pub some : 0 < capacity
  pub few : capacity ≤ MAX_CAPACITY

-- what a run is prepared from: the engine's table, its events before the units, how many units it
-- has, and the numbers of workers and of items in the queue that were asked for
pub record RunRequest : Type 0 where
  pub table : List Descriptor
  pub before : List Event
  pub units : ℕ
  pub workers : ℕ
  pub capacity : ℕ

-- nothing was taken, the queue has the capacity, the record has what comes before, and each worker
-- is awaited
pub record IsFreshCollector (asked : RunRequest) (a : EventCollector) : Type 0 where
  pub receiver : a.receiver ≡ fresh_receiver a.receiver.session asked.table asked.workers
  pub of_capacity : capacity_of a.receiver.session ≡ asked.capacity
  pub table_is : a.«record».table ≡ asked.table
  pub entries : a.«record».entries ≡ entries_by 0 asked.before
  pub static_events : AreOfWorkerZero (length asked.table) asked.before
  pub width : length a.awaited.items ≡ asked.workers
  pub awaited : (i : ℕ) (b : Bool) → slice_get a.awaited.items i ≡ Some b → b ≡ true
  pub room : a.is_out_of_memory ≡ false
  pub started : a.lacks_thread ≡ false

-- a claim on the units, a book, workers who have done nothing, and room for the end of each and its
-- parts
pub record IsPreparedRun (asked : RunRequest) (s : PreparedRun) : Type 0 where
  pub limit : s.claim.limit ≡ asked.units
  pub seats : s.claim.seats ≡ asked.workers
  pub unstarted :
      AreUnstarted s.collected.collector.receiver.session
      (shared_parts s.claim s.book asked.table) s.unstarted
  pub many : vec_len s.unstarted.senders ≡ asked.workers
  pub collector : IsFreshCollector asked s.collected.collector
  pub empty : vec_len s.collected.worker_ends ≡ 0
  pub room : asked.workers ≤ vec_capacity s.collected.worker_ends
  pub parts : HasRoomFor asked.workers s.parts
