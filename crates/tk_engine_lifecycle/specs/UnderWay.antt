-- What a unit has emitted so far that keeps the lifecycle, while some of its keys run.
use Rattle.std.specs.Prelude.{◌≡◌, ◌⊎◌, ℕ, ◌<◌, true, List, [], ◌∷◌, ◌++◌, length, None}
use Rattle.tk_ids.specs.IdText.{SegmentView, parent_of}
use Rattle.tk_ids.specs.declared.descriptors.Descriptor.{Descriptor}
use Rattle.tk_events.specs.declared.events.Event.{Event}
use Rattle.tk_events.specs.declared.events.Entry.{Entry}
use Rattle.tk_record.specs.Recorded.{Recorded}
use Rattle.tk_queue_session.specs.Emission.{entries_by, entry_by}
use Rattle.tk_query_lifecycle.specs.Lifecycle.{HasId, KnowsId, runs}
use Rattle.tk_record.specs.Entries.{with_entry, desc}
use Rattle.tk_events.specs.declared.kinds.Kind.{Kind}
use Rattle.tk_events.specs.declared.kinds.Kind.TheVariants.{Started}
use Rattle.tk_query_lifecycle.specs.KeepsLifecycle.{IsWhole, steps_of}
use Rattle.tk_engine_lifecycle.specs.Units.{Frame, AreOf}

-- the record of what came before the units and of what a worker emitted then
abbrev pub so_far : Frame → ℕ → List Event → Recorded
so_far f worker events =
    record { table = f.table; entries = entries_by 0 f.before ++ entries_by worker events }

-- The event registers no id that is known, and where the id of its key has a parent's id, a key has
-- that id and runs.
pub record MayFollow (past : Recorded) (e : Entry) : Type 0 where
  pub new : ¬ KnowsId past e
  pub below : (id : List SegmentView) → HasId (with_entry past e) e.event.key id → 1 < length id
      → (parent : ℕ) × HasId past parent (parent_of id) × (runs parent past.entries ≡ true)

-- one of the numbers of a list
abbrev pub IsOneOf : ℕ → List ℕ → Type 0
IsOneOf n [] = ⊥
IsOneOf n (x ∷ xs) = (n ≡ x) ⊎ IsOneOf n xs

-- where the id of a key has a parent's id, a key has it that is one of these, or that runs before
-- the units
abbrev pub HasRunningParentIn : Frame → Recorded → List ℕ → ℕ → Type 0
HasRunningParentIn f r running key =
    (id : List SegmentView) → HasId r key id → 1 < length id
    → (parent : ℕ) × HasId r parent (parent_of id)
    × (IsOneOf parent running ⊎ (runs parent (entries_by 0 f.before) ≡ true))

-- the keys differ, and each has its parent among those after it, or before the units
abbrev pub AreNested : Frame → Recorded → List ℕ → Type 0
AreNested f r [] = Unit {0}
AreNested f r (key ∷ running) =
    HasRunningParentIn f r running key × (¬ IsOneOf key running) × AreNested f r running

-- How far a unit of an engine is: the worker that runs it, what it has emitted, and the keys that
-- run, innermost first.
pub record UnitState : Type 0 where
  pub frame : Frame
  pub unit : ℕ
  pub worker : ℕ
  pub events : List Event
  pub running : List ℕ

-- the record of what came before the units and of what the unit has emitted
abbrev pub record_of : UnitState → Recorded
record_of s = so_far s.frame s.worker s.events

-- the unit after one event more, with these running keys
abbrev pub emits : UnitState → Event → List ℕ → UnitState
emits s e running = record {
  frame = s.frame;
  unit = s.unit;
  worker = s.worker;
  events = s.events ++ e ∷ [];
  running = running;
}

-- the kinds of the steps of a key that the unit has emitted
abbrev pub steps_so_far : UnitState → ℕ → List Kind
steps_so_far s key = steps_of key (entries_by s.worker s.events)

-- What a unit has emitted: each event may follow those before it, each is of a descriptor that
-- belongs to the unit, the keys that run are nested, innermost first, and have started, and every
-- other key has nothing, a skip, or a start and a finish.
pub record IsUnderWay (s : UnitState) : Type 0 where
  pub each : (a : List Event) (e : Event) (b : List Event) → s.events ≡ a ++ e ∷ b
      → MayFollow (so_far s.frame s.worker a) (entry_by s.worker e)
  pub own : AreOf (λ id. s.frame.owner id ≡ s.unit) (record_of s) s.events
  pub nested : AreNested s.frame (record_of s) s.running
  pub started : (key : ℕ) → IsOneOf key s.running → steps_so_far s key ≡ Started ∷ []
  pub whole : (key : ℕ) → ¬ IsOneOf key s.running → IsWhole (steps_so_far s key)

-- The key may have its first event: it has an id that belongs to the unit, and where that has a
-- parent's id, one of the running keys has it, or a key that runs before the units.
pub record MayBegin (s : UnitState) (key : ℕ) : Type 0 where
  pub id : List SegmentView
  pub its : HasId (record_of s) key id
  pub belongs : s.frame.owner id ≡ s.unit
  pub parent : HasRunningParentIn s.frame (record_of s) s.running key

-- A descriptor that may be registered under a key which has none: its id is new, belongs to the
-- unit, and is that of a running key with one segment more.
pub record MayBeRegistered (s : UnitState) (key : ℕ) (d : Descriptor) : Type 0 where
  pub free : desc (record_of s) key ≡ None
  pub new : (other : ℕ) → ¬ HasId (record_of s) other d.id
  pub belongs : s.frame.owner d.id ≡ s.unit
  pub above : ℕ
  pub runs : IsOneOf above s.running
  pub id : List SegmentView
  pub above_is : HasId (record_of s) above id
  pub segment : SegmentView
  pub child : d.id ≡ id ++ segment ∷ []
