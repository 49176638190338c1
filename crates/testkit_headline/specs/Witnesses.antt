-- The words of the headline with numbers: each is met by something, and refuses something.
use Rattle.std.specs.Prelude.{ℕ, ◌==◌, if◌then◌else◌, List, [], ◌∷◌, ◌++◌, Option, Some, None}
use Rattle.tk_events.specs.declared.kinds.Kind.TheVariants as kind
use Rattle.tk_events.specs.declared.payloads.Payload.TheVariants as payload
use Rattle.tk_events.specs.declared.events.Event.{Event}
use Rattle.tk_events.specs.declared.events.Entry.{Entry}
use Rattle.tk_record.specs.Mixing.{Mix}
use Rattle.tk_record.specs.Selections.{PositionedEntry, Selected}
use Rattle.tk_record.specs.declared.selections.Selection.TheVariants.{Started}
use Rattle.tk_query_conditions.specs.declared.conditions.Condition.TheVariants as condition
use Rattle.tk_query.specs.Asked.{fits}
use Rattle.tk_query.specs.InOrder.{CanHoldInTurn}
use Rattle.tk_locks.specs.NeedView.{NeedView}
use Rattle.tk_locks.specs.Holdings.{WritersAreAlone}
use Rattle.tk_queue_session.specs.declared.items.Item.TheVariants.{Entry as Emitted, End}
use Rattle.tk_queue_session.specs.Core.{Core, IsCore, push, take_first}
use Rattle.tk_queue_session.specs.CoreSteps.{fresh_core}
use Rattle.testkit_headline.specs.Recordings.{Completes, NothingAfterMarks, HoldsWhatWasSent}
use Rattle.testkit_headline.specs.Counting.{IsCount}

-- the start of descriptor 0 at this time, and that of this worker
abbrev pub start_at : ℕ → Event
start_at stamp = record { kind = kind.Started; key = 0; stamp = stamp; payload = payload.Nothing }

abbrev pub entry_at : ℕ → ℕ → Entry
entry_at w stamp = record { worker = w; event = start_at stamp }

abbrev pub start_of : ℕ → Entry
start_of w = entry_at w 0

-- worker 1 sent the start, and then ended
abbrev pub both_wait : Core
both_wait = push (End 1) (push (Emitted (start_of 1)) fresh_core)

-- the start was taken, and the end mark waits
abbrev pub mark_waits : Core
mark_waits = take_first (Emitted (start_of 1)) (End 1 ∷ []) both_wait

-- both were taken
abbrev pub all_taken : Core
all_taken = take_first (End 1) [] mark_waits

-- a seat that writes resource 0
abbrev pub a_writer : Option NeedView
a_writer = Some (record { reads = 0; writes = 1 })

-- the events of a record of one start, over a table without a descriptor
abbrev pub one_start : Selected
one_start = record {
  recorded = record { table = []; entries = start_of 1 ∷ [] };
  kept = record { position = 0; entry = start_of 1 } ∷ [];
}

-- two workers sent three starts each
abbrev pub six_starts : ℕ → List Event
six_starts w =
    if w == 1 then start_at 1 ∷ start_at 2 ∷ start_at 3 ∷ []
    else start_at 4 ∷ start_at 5 ∷ start_at 6 ∷ []

-- those starts, interleaved but for the last
abbrev pub five_starts : List Entry
five_starts = entry_at 1 1 ∷ entry_at 2 4 ∷ entry_at 2 5 ∷ entry_at 1 2 ∷ entry_at 1 3 ∷ []

-- a record of a start before the units, the five starts and these entries holds what was sent,
-- where one start came after the units
abbrev pub HoldsSixStarts : List Entry → Type 0
HoldsSixStarts last =
    HoldsWhatWasSent (start_at 0 ∷ []) (start_at 9 ∷ []) 2 six_starts
    (record { table = []; entries = entry_at 0 0 ∷ five_starts ++ last })

pub record Witnesses : Type 0 where
  -- a session in which the event and the mark were taken completes,
  pub taken_mark_completes : IsCore 1 all_taken × Completes 1 all_taken.taken
  -- and one in which the mark waits doesn't
  pub waiting_mark_does_not : IsCore 1 mark_waits × ¬ Completes 1 mark_waits.taken
  -- an event after the mark of worker 2 is something after a mark
  pub event_after_the_mark : ¬ NothingAfterMarks 2 (End 1 ∷ End 2 ∷ Emitted (start_of 2) ∷ [])
  -- an entry of a worker that there isn't is in no interleaving
  pub entry_of_another_worker : (lists : ℕ → List Event) → ¬ Mix 1 (start_of 2 ∷ []) lists
  -- the record with the last start, and then that after the units, holds what was sent; without the
  -- last, with one more, or with the two in the other order it doesn't
  pub six_starts_held : HoldsSixStarts (entry_at 2 6 ∷ entry_at 0 9 ∷ [])
  pub lost_start : ¬ HoldsSixStarts (entry_at 0 9 ∷ [])
  pub invented_start : ¬ HoldsSixStarts (entry_at 2 6 ∷ entry_at 2 7 ∷ entry_at 0 9 ∷ [])
  pub start_after_the_units : ¬ HoldsSixStarts (entry_at 0 9 ∷ entry_at 2 6 ∷ [])
  -- one writer is alone, and two are not
  pub one_writer : WritersAreAlone (a_writer ∷ None ∷ [])
  pub two_writers : ¬ WritersAreAlone (a_writer ∷ a_writer ∷ [])
  -- of one start the count of `started` is 1, and not 2
  pub count_of_one : IsCount one_start (Started, 1)
  pub count_of_two : ¬ IsCount one_start (Started, 2)
  -- a condition that holds can hold in turn, and one that doesn't can't
  pub condition_that_holds : CanHoldInTurn (fits one_start) (condition.Started ∷ [])
  pub condition_that_does_not : ¬ CanHoldInTurn (fits one_start) (condition.Succeeded ∷ [])
