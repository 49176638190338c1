-- What contracts see of the receiver: the session, and what was taken.
use Rattle.std.specs.Prelude.{◌≡◌, ℕ, ◌<◌, ◌≤◌, Bool, true, false, List, [], ◌∷◌, ◌++◌, length}
use Rattle.std.specs.Prelude.{slice_index_or, All}
use Rattle.atomic_table.specs.Seated.{TableId}
use Rattle.tk_ids.specs.declared.descriptors.Descriptor.{Descriptor}
use Rattle.tk_events.specs.declared.events.Entry.{Entry}
use Rattle.tk_events.specs.Event.{is_lawful}
use Rattle.tk_record.specs.Record.{is_known}
use Rattle.tk_record.specs.Mixing.{IsWorkerOf, of_worker}
use Rattle.tk_queue_session.specs.Limits.{most_workers, worker_slots, most_events}
use Rattle.tk_queue_session.specs.declared.items.Item.{Item}
use Rattle.tk_queue_session.specs.declared.items.Item.TheVariants.{Entry as Emitted, End}
use Rattle.tk_queue_session.specs.Core.{Core, IsCore, entries}
use Rattle.tk_queue_session.specs.declared.session_rules.PassView.{PassView}
use Rattle.tk_queue_session.specs.declared.session_rules.PassView.TheVariants.{Takes}
use Rattle.tk_queue_session.specs.PassViews.{pass_of_receiver}
pub use Rattle.tk_queue_session.specs.Marks.{is_mark_of, is_marked}

-- the session, its table of static descriptors, the number of its workers, and the items that were
-- taken, in order
pub record ReceiverView : Type 0 where
  pub session : TableId
  pub table : List Descriptor
  pub workers : ℕ
  pub taken : List Item

-- the receiver after it took one item more
abbrev pub takes : ReceiverView → Item → ReceiverView
takes r x =
    record { session = r.session; table = r.table; workers = r.workers; taken = r.taken ++ x ∷ [] }

-- a receiver of the workers 1 to n that has taken nothing
abbrev pub fresh_receiver : TableId → List Descriptor → ℕ → ReceiverView
fresh_receiver session table n =
    record { session = session; table = table; workers = n; taken = [] }

-- A state of the core in which this was taken and nothing waits: of each worker, what was taken is
-- what it sent in that state, and its mark if it ended.
pub record NothingWaited (r : ReceiverView) : Type 0 where
  pub core : Core
  pub is_core : IsCore r.workers core
  pub taken : core.taken ≡ r.taken
  pub waiting : core.waiting ≡ []

-- the entry may stand after those that were taken: it is lawful, its key is known after them, and
-- its worker has room
pub record MayFollow (table : List Descriptor) (taken : List Entry) (e : Entry) : Type 0 where
  pub lawful : is_lawful e.event.kind e.event.payload ≡ true
  pub known : is_known (record { table = table; entries = taken }) e ≡ true
  pub room : length (of_worker e.worker taken) < most_events

-- the item may be taken next: an entry that may follow those taken before, or any mark
abbrev pub MayBeTaken : ReceiverView → Item → Type 0
MayBeTaken r (Emitted e) = MayFollow r.table (entries r.taken) e
MayBeTaken r (End w) = Unit {0}

-- the entries are of the workers 1 to n, and each worker has no more than it may emit
pub record IsRecordable (n : ℕ) (taken : List Entry) : Type 0 where
  pub limit : n ≤ most_workers
  pub workers : All (λ e. IsWorkerOf n e.worker) taken
  pub few : (w : ℕ) → length (of_worker w taken) ≤ most_events

-- what the receiver's pass knows of the items that were taken
abbrev pub taken_of : PassView → List Item
taken_of (Takes r) = r.taken
taken_of v = []

-- the fields of a receiver stand for what its pass knows
pub record IsReceiver (v : PassView) (table : List Descriptor) (workers : ℕ) (marked : List Bool)
    : Type 0 where
  pub is : v ≡ pass_of_receiver (length table) workers (taken_of v) []
  pub recordable : IsRecordable workers (entries (taken_of v))
  pub long : length marked ≡ worker_slots
  pub marks : (w : ℕ) → w < worker_slots → slice_index_or marked w false ≡ is_marked w (taken_of v)
