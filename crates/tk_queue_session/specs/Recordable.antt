-- What is taken from a session can be recorded.
use Rattle.std.specs.Prelude.{◌≡◌, ℕ, ◌*◌, ◌≤◌, List, ◌++◌, length, All, None}
use Rattle.tk_ids.specs.declared.descriptors.Descriptor.{Descriptor}
use Rattle.tk_events.specs.declared.events.Entry.{Entry}
use Rattle.tk_record.specs.Record.{fault_of}
use Rattle.tk_record.specs.Mixing.{IsWorkerOf}
use Rattle.tk_queue_session.specs.Limits.{most_events}
use Rattle.tk_queue_session.specs.Receivers.{MayFollow, IsRecordable}

-- After the entries that were taken, and at most `most_events` of worker 0 before them, a record
-- has no fault to find with the entry that is taken next
abbrev pub IsNeverRefused : Type 0
IsNeverRefused =
    (n : ℕ) (table : List Descriptor) (prefix taken : List Entry) (e : Entry)
    → All (λ x. x.worker ≡ 0) prefix → length prefix ≤ most_events
    → IsRecordable n taken → IsWorkerOf n e.worker → MayFollow table taken e
    → fault_of (record { table = table; entries = prefix ++ taken }) e ≡ None

-- all workers together emit no more than what a record has room for
abbrev pub IsShort : Type 0
IsShort = (n : ℕ) (taken : List Entry) → IsRecordable n taken → length taken ≤ n * most_events
