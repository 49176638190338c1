-- What a unit of a hierarchical engine emits.
use Rattle.std.specs.Prelude.{◌≡◌, ◌<◌, ℕ, true, List, ◌++◌, All, length}
use Rattle.tk_ids.specs.declared.descriptors.Descriptor.{Descriptor}
use Rattle.tk_events.specs.declared.events.Event.{Event}
use Rattle.tk_events.specs.declared.events.Entry.{Entry}
use Rattle.tk_query_lifecycle.specs.KeepsLifecycle.{is_step}
use Rattle.tk_queue_session.specs.Emission.{entries_by}
use Rattle.tk_queue_session.specs.Senders.{SenderView}
use Rattle.tk_engine_lifecycle.specs.Units.{Frame, KeepsAlone, run_alone}
use Rattle.tk_engine_unit_events.specs.Covered.{AreCovered}
use Rattle.tk_engine_unit_events.specs.Nesting.{EachFinishes, EventsNest}

-- the number of a unit, and its static keys: from the first one on, and below the end
pub record UnitKeys : Type 0 where
  pub unit : ℕ
  pub first : ℕ
  pub end : ℕ

-- the worker that runs a unit, and the events that it emits there
pub record UnitOutput : Type 0 where
  pub worker : ℕ
  pub events : List Event

-- where the event is a start, a skip or a finish of a static key, this holds of it
abbrev pub StepsAs : List Descriptor → (Event → Type 0) → Event → Type 0
StepsAs table may_step e = e.key < length table → is_step e.kind ≡ true → may_step e

-- Of what a unit emits: it keeps the lifecycle where the unit runs alone, each step of a static key
-- is one that the unit may emit, each of the unit's static keys had its turn, and each key that
-- starts has its own events until it finishes.
pub record RunsUnit (f : Frame) (may_step : Event → Type 0) (keys : UnitKeys)
    (out : UnitOutput) : Type 0 where
  pub keeps : KeepsAlone f keys.unit out.worker out.events
  pub steps : All (StepsAs f.table may_step) out.events
  pub covered : AreCovered f.table (entries_by out.worker out.events) keys.first keys.end
  pub nest : EventsNest (run_alone f out.worker out.events) out.events
  pub finish : EachFinishes out.events

-- the sink took events since the unit began: this holds of each, and that of all
pub record HasTaken (each : Event → Type 0) (all : List Entry → Type 0)
    (start now : SenderView) : Type 0 where
  pub events : List Event
  pub sent : now.sent ≡ start.sent ++ events
  pub each_holds : All each events
  pub all_hold : all (entries_by start.worker events)

-- so far each step of a static key is one that the unit may emit, and each static key from the
-- first one on and below the next had its turn
abbrev pub HasPlayed :
    List Descriptor → (Event → Type 0) → ℕ → ℕ → SenderView → SenderView → Type 0
HasPlayed table may_step first next start now =
    HasTaken (StepsAs table may_step) (λ entries. AreCovered table entries first next) start now
