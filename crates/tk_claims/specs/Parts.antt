-- What a run has of each worker.
use Rattle.std.specs.Prelude.{◌≡◌, ℕ, List, ◌++◌}
use Rattle.tk_events.specs.declared.events.Event.{Event}
use Rattle.tk_events.specs.declared.events.Entry.{Entry}
use Rattle.tk_record.specs.Mixing.{IsWorkerOf, of_worker, Mix}
use Rattle.tk_queue_session.specs.Emission.{entries_by}

-- worker 0 has what came before and after, and each of the others its list of those that are
-- interleaved
abbrev pub EachHasItsList : Type 0
EachHasItsList =
    (before after : List Event) (workers : ℕ) (mid : List Entry) (lists : ℕ → List Event)
    → Mix workers mid lists
    → (of_worker 0 (entries_by 0 before ++ mid ++ entries_by 0 after) ≡ before ++ after)
    × ((w : ℕ) → IsWorkerOf workers w
    → of_worker w (entries_by 0 before ++ mid ++ entries_by 0 after) ≡ lists w)
