-- What an engine emits into a sink, and its events before and after the units.
use Rattle.std.specs.Prelude.{◌≡◌, ℕ, ◌<◌, ◌≤◌, ◌++◌, true, List, length, All}
use Rattle.tk_events.specs.declared.events.Event.{Event}
use Rattle.tk_queue_session.specs.Emission.{is_plain, registrations}
use Rattle.tk_queue_session.specs.Limits.{most_events}
use Rattle.tk_queue_session.specs.Senders.{SenderView}
use Rattle.tk_ids.specs.declared.id_faults.IdFault.{IdFault}
use Rattle.tk_ids.specs.declared.id_faults.IdFault.TheVariants as ids
use Rattle.tk_queue_session.specs.declared.sender_faults.RegisterFault.TheVariants as registers
use Rattle.tk_engine_execute.specs.declared.sinks.SinkFault.TheVariants as sinks
use Rattle.tk_engine_execute.specs.declared.engines.UnitFault.{UnitFault}
use Rattle.tk_engine_execute.specs.declared.engines.UnitFault.TheVariants as units
use Rattle.tk_engine_execute.specs.Prefix.{IsPrefix}

-- b is of the same session, table and worker as a
pub record IsSameSender (a b : SenderView) : Type 0 where
  pub session : b.session ≡ a.session
  pub table : b.table ≡ a.table
  pub worker : b.worker ≡ a.worker

-- what b sent is what a sent, and a list after it
abbrev pub Extends : SenderView → SenderView → Type 0
Extends a b = IsPrefix a.sent b.sent

-- What b sent is what a sent, and after it a list that a unit may emit for the worker. Which keys
-- the list's registrations have depends on how many descriptors the worker had registered before.
abbrev pub ExtendsAs : (ℕ → ℕ → List Event → Type 0) → SenderView → SenderView → Type 0
ExtendsAs may a b =
    (l : List Event) × (b.sent ≡ a.sent ++ l) × may a.worker (registrations a.sent) l

-- an event that worker 0 may emit, where n descriptors are static
abbrev pub IsStaticEvent : ℕ → Event → Type 0
IsStaticEvent n e = (e.key < n) × (is_plain e ≡ true)

-- events that worker 0 may emit: each is lawful, of a static descriptor and no registration, and
-- there are at most `most_events`
pub record AreOfWorkerZero (n : ℕ) (es : List Event) : Type 0 where
  pub each : All (IsStaticEvent n) es
  pub few : length es ≤ most_events

-- a unit of an engine of `units` units that may fail with this fault, as the engine's `fails` says
abbrev pub MayFail : ℕ → (ℕ → UnitFault → Type 0) → ℕ → UnitFault → Type 0
MayFail units fails unit why = (unit < units) × fails unit why

-- a unit's fault where it can't make a segment: memory, or that of registering with this segment
abbrev pub fault_of_id : IdFault → UnitFault
fault_of_id ids.Memory = units.Memory
fault_of_id fault = units.Sink (sinks.Register (registers.Id fault))
