-- What a recording of a session, or of a run, has of each worker.
use Rattle.std.specs.Prelude.{◌≡◌, ℕ, true, List, [], ◌∷◌, ◌++◌}
use Rattle.tk_events.specs.declared.events.Event.{Event}
use Rattle.tk_events.specs.declared.events.Entry.{Entry}
use Rattle.tk_record.specs.Recorded.{Recorded}
use Rattle.tk_record.specs.Mixing.{IsWorkerOf, Mix}
use Rattle.tk_queue_session.specs.declared.items.Item.{Item}
use Rattle.tk_queue_session.specs.declared.items.Item.TheVariants.{End}
use Rattle.tk_queue_session.specs.Core.{items_of}
use Rattle.tk_queue_session.specs.Emission.{entries_by}
use Rattle.tk_queue_session.specs.Marks.{is_marked}

-- the recording of n workers completes: the end mark of each was taken
abbrev pub Completes : ℕ → List Item → Type 0
Completes n taken = (w : ℕ) → IsWorkerOf n w → is_marked w taken ≡ true

-- where the end mark of one of the workers 1 to n stands among the items, no item of the worker
-- comes after it
abbrev pub NothingAfterMarks : ℕ → List Item → Type 0
NothingAfterMarks n items =
    (w : ℕ) (before after : List Item) → IsWorkerOf n w → items ≡ before ++ End w ∷ after
    → items_of w after ≡ []

-- The record has the events before the units, then what the workers 1 to n sent, interleaved, and
-- then the events after the units.
pub record HoldsWhatWasSent
    (before after : List Event) (n : ℕ) (sent : ℕ → List Event) (r : Recorded) : Type 0 where
  pub mid : List Entry
  pub whole : r.entries ≡ entries_by 0 before ++ mid ++ entries_by 0 after
  pub mix : Mix n mid sent
