-- How many workers a session may have, how much a worker may emit, and how much its queue may
-- hold.
use Rattle.std.specs.Prelude.{ℕ, ◌+◌}
use Rattle.atomic_table.specs.Seated.{TableId}
use Rattle.tk_base.specs.declared.limits.TheConstants.{MAX_EVENTS, MAX_WORKERS}

-- the workers are 1 to this at most
abbrev pub most_workers : ℕ
most_workers = MAX_WORKERS

-- a slot for each worker, and one for worker 0
abbrev pub worker_slots : ℕ
worker_slots = MAX_WORKERS + 1

-- how many events one worker may emit
abbrev pub most_events : ℕ
most_events = MAX_EVENTS

-- how many items the queue of a session may hold: it has a slot for each
abbrev pub capacity_of : TableId → ℕ
capacity_of session = session.slots
