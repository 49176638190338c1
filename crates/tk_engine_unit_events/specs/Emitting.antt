-- What a unit of a hierarchical engine has emitted into its sink.
use Rattle.std.specs.Prelude.{◌≡◌, ◌⊎◌, ℕ, ◌<◌, ◌≤◌, Bool, true, List, [], ◌++◌, length}
use Rattle.tk_ids.specs.IdText.{SegmentView, id_text}
use Rattle.tk_events.specs.declared.events.Event.{Event}
use Rattle.tk_queue_session.specs.Senders.{SenderView, record_of_sender}
use Rattle.tk_engine_execute.specs.Engines.{IsSameSender}
use Rattle.tk_ids.specs.Table.{HasId as TableHasId}
use Rattle.tk_query_lifecycle.specs.Lifecycle.{HasId}
use Rattle.tk_queue_session.specs.Emission.{entries_by}
use Rattle.tk_query_lifecycle.specs.KeepsLifecycle.{steps_of}
use Rattle.tk_engine_lifecycle.specs.Units.{Frame}
use Rattle.tk_engine_lifecycle.specs.UnderWay.{so_far}
use Rattle.tk_engine_lifecycle.specs.Laws.{IsGoing}

-- Where a unit stands: the keys that run, innermost first, which texts of ids it has registered,
-- and the least static key that it may still start or skip.
pub record Progress : Type 0 where
  pub running : List ℕ
  pub registered : List ℕ → Bool
  pub next : ℕ

-- a sink when a unit began, and as it is now
pub record SinkChange : Type 0 where
  pub start : SenderView
  pub now : SenderView

abbrev pub since : SenderView → SenderView → SinkChange
since start now = record { start = start; now = now }

-- The sink took some events since the unit began; with them the unit is under way. What has an id
-- in the record has it in the sink too, and is static or was registered by the unit; the static
-- keys from the next one on had no step.
pub record IsEmitting (f : Frame) (unit : ℕ) (sink : SinkChange) (p : Progress) : Type 0 where
  pub same : IsSameSender sink.start sink.now
  pub table : sink.start.table ≡ f.table
  pub events : List Event
  pub sent : sink.now.sent ≡ sink.start.sent ++ events
  pub going :
      IsGoing
      (record {
        frame = f;
        unit = unit;
        worker = sink.start.worker;
        events = events;
        running = p.running;
      })
  pub known : (key : ℕ) (id : List SegmentView)
      → HasId (so_far f sink.start.worker events) key id → HasId (record_of_sender sink.now) key id
  pub ids : (key : ℕ) (id : List SegmentView)
      → HasId (so_far f sink.start.worker events) key id
      → TableHasId f.table id ⊎ (p.registered (id_text id) ≡ true)
  pub fresh : (key : ℕ) → p.next ≤ key → key < length f.table
      → steps_of key (entries_by sink.start.worker events) ≡ []
