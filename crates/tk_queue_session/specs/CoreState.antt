-- What the queue's core keeps: its workers, which of them have ended, and what waits.
use Rattle.std.specs.Prelude.{◌≡◌, ℕ, Bool, true, false, List, [], ◌∷◌, ◌++◌, slice_set, get_or}
use Rattle.std.specs.Prelude.{replicate}
use Rattle.tk_events.specs.declared.events.Event.{Event}
use Rattle.tk_record.specs.Mixing.{IsWorkerOf}
use Rattle.tk_queue_session.specs.Limits.{worker_slots}
use Rattle.tk_queue_session.specs.declared.items.Item.{Item}
use Rattle.tk_queue_session.specs.declared.items.Item.TheVariants.{Entry as Emitted, End}
use Rattle.tk_queue_session.specs.declared.cores.CoreFault.{CoreFault}
use Rattle.tk_queue_session.specs.declared.cores.CoreFault.TheVariants.{Worker, AfterEnd, Memory}

-- `ended` has a mark for each worker, by its number
pub record CoreState : Type 0 where
  pub workers : ℕ
  pub ended : List Bool
  pub waiting : List Item

-- whether worker w has ended
abbrev pub has_ended : CoreState → ℕ → Bool
has_ended c w = get_or c.ended w false

-- the workers 1 to n, none of which has ended, and nothing waits
abbrev pub fresh : ℕ → CoreState
fresh n = record { workers = n; ended = replicate worker_slots false; waiting = [] }

-- worker w, which has not ended, emits e
abbrev pub emits : ℕ → Event → CoreState → CoreState
emits w e c = record {
  workers = c.workers;
  ended = c.ended;
  waiting = c.waiting ++ Emitted (record { worker = w; event = e }) ∷ [];
}

-- worker w, which has not ended, ends
abbrev pub ends : ℕ → CoreState → CoreState
ends w c = record {
  workers = c.workers;
  ended = slice_set c.ended w true;
  waiting = c.waiting ++ End w ∷ [];
}

-- the core before x, the first item that waits, was taken
abbrev pub with_first : Item → CoreState → CoreState
with_first x c = record { workers = c.workers; ended = c.ended; waiting = x ∷ c.waiting }

-- why the core makes no step for worker w
abbrev pub IsCoreFault : CoreState → ℕ → CoreFault → Type 0
IsCoreFault c w Worker = ¬ IsWorkerOf c.workers w
IsCoreFault c w AfterEnd = IsWorkerOf c.workers w × (has_ended c w ≡ true)
IsCoreFault c w Memory = IsWorkerOf c.workers w × (has_ended c w ≡ false)
