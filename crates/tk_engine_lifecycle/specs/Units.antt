-- Units that keep the lifecycle, each in a run in which it is the only one.
use Rattle.std.specs.Prelude.{◌≡◌, ℕ, ◌<◌, ◌≤◌, List, [], ◌++◌, All, length}
use Rattle.tk_ids.specs.IdText.{SegmentView}
use Rattle.tk_ids.specs.declared.descriptors.Descriptor.{Descriptor}
use Rattle.tk_events.specs.declared.events.Event.{Event}
use Rattle.tk_record.specs.Recorded.{Recorded}
use Rattle.tk_queue_session.specs.Emission.{entries_by}
use Rattle.tk_query_lifecycle.specs.Lifecycle.{HasId}
use Rattle.tk_query_lifecycle.specs.KeepsLifecycle.{KeepsLifecycle}
use Rattle.tk_engine_execute.specs.Engines.{IsStaticEvent}

-- An engine's table, its events before and after the units, how many units it has, and to which of
-- them an id belongs: to none where the number is no unit's.
pub record Frame : Type 0 where
  pub table : List Descriptor
  pub before : List Event
  pub after : List Event
  pub units : ℕ
  pub owner : List SegmentView → ℕ

-- the record of a run in which this worker emits these events, and no other unit is there
abbrev pub run_alone : Frame → ℕ → List Event → Recorded
run_alone f worker events = record {
  table = f.table;
  entries = entries_by 0 f.before ++ entries_by worker events ++ entries_by 0 f.after;
}

-- each of the events is of a descriptor in the record whose id passes
abbrev pub AreOf : (List SegmentView → Type 0) → Recorded → List Event → Type 0
AreOf passes r events = All (λ e. (id : List SegmentView) × HasId r e.key id × passes id) events

-- Of what a unit emits that runs alone: the record keeps the lifecycle, and each event is of a
-- descriptor that belongs to the unit.
pub record KeepsAlone (f : Frame) (unit worker : ℕ) (events : List Event) : Type 0 where
  pub keeps : KeepsLifecycle (run_alone f worker events)
  pub own : AreOf (λ id. f.owner id ≡ unit) (run_alone f worker events) events

-- Of what is emitted around the units: it keeps the lifecycle by itself, and each event is of a
-- static descriptor that belongs to no unit, and registers none.
pub record KeepsAround (f : Frame) : Type 0 where
  pub keeps : KeepsLifecycle (run_alone f 0 [])
  pub static : All (IsStaticEvent (length f.table)) (f.before ++ f.after)
  pub common : AreOf (λ id. f.units ≤ f.owner id) (run_alone f 0 []) (f.before ++ f.after)

-- each unit keeps the lifecycle alone, whichever list it emits of those that it may emit
pub record UnitsKeepLifecycle (f : Frame) (may : ℕ → ℕ → ℕ → List Event → Type 0) : Type 0 where
  pub around : KeepsAround f
  pub each : (unit worker earlier : ℕ) (events : List Event) → unit < f.units
      → may unit worker earlier events → KeepsAlone f unit worker events
